pub mod Frames
pub mod Lines
pub mod Runs
pub mod Tallies
