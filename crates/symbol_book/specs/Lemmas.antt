pub mod Entries
pub mod HeldTrades
pub mod ParticipantStores
