pub mod Answers
pub mod Asking
pub mod Calls
pub mod Commands
pub mod Faults
pub mod Lines
pub mod Places
pub mod Serving
