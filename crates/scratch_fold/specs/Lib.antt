pub mod Columns
pub mod Fold
pub mod Lemmas
pub mod Places
