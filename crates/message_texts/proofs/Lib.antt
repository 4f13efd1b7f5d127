pub mod DecodeLemmas
pub mod EncodedPrefix
pub mod EndLemmas
pub mod NameLemmas
pub mod RoundTrip
pub mod SpelledBytes
pub mod TakenLines
pub mod WrittenPieces
