pub mod Lemmas
pub mod RegisterState
pub mod TargetFaults
pub mod TargetRows
pub mod Targets
