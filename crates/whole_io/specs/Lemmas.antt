pub mod Fills
pub mod WriteLemmas
