pub mod Cuts
mod Entries
pub mod GrowingRows
pub mod Legal
pub mod Lengths
pub mod Numbers
pub mod Packets
pub mod Sources
mod Summaries
pub mod Versions
