pub mod Beside
pub mod Differences
pub mod Laws
pub mod Places
pub mod Verdicts
