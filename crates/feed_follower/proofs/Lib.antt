pub mod Counts
pub mod Heards
pub mod Kept
pub mod Reports
pub mod Rows
pub mod Wholes
