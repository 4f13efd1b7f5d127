pub mod Accounts
pub mod Crossing
pub mod Following
pub mod Growing
pub mod Least
pub mod Operated
pub mod RestoredGroups
pub mod Sendings
