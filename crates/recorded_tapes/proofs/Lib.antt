pub mod LineLemmas
pub mod RoundTrip
pub mod Sameness
pub mod TextLemmas
