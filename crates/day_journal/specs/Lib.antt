pub mod GroupReading
pub mod Groups
pub mod HeaderReads
pub mod Headers
pub mod Journals
pub mod Reads
pub mod Replays
pub mod Writers
