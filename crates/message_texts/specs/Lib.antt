pub mod DecodedTexts
pub mod EncodedTexts
pub mod EndTexts
pub mod Ends
pub mod Laws
pub mod OwnBytes
pub mod TextLines
