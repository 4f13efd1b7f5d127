pub mod Drains
pub mod Failures
pub mod Legal
pub mod Turns
