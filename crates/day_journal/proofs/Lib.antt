mod Frames
mod Groups
mod Headers
mod Journals
mod Lists
mod PutPackets
mod ReadPackets
mod Replays
