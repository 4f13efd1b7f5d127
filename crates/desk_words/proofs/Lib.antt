pub mod InputLemmas
pub mod LineLemmas
pub mod RunLemmas
pub mod VerifyLemmas
pub mod WatchLemmas
