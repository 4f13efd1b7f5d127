pub mod Counts
pub mod Gaps
pub mod Numbers
pub mod Slots
pub mod Windows
