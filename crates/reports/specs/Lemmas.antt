pub mod Fields
pub mod Messages
pub mod PutTexts
pub mod Texts
