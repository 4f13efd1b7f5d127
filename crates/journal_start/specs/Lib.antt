pub mod Groups
pub mod PastLines
pub mod Starts
