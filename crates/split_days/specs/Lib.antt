pub mod Split
pub mod Worked
