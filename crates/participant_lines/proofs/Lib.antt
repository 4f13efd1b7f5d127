mod Fronts
mod Places
mod Spelled
mod Steps
pub mod Tallies
