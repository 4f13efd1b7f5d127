pub mod NumberMaps
pub mod Pairs
pub mod Parts
pub mod RisingEntries
pub mod Symbols
