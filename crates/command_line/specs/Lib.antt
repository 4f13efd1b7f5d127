pub mod Arguments
pub mod Commands
pub mod Given
pub mod Hints
pub mod Similar
pub mod Statuses
pub mod Wrongs
