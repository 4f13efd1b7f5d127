pub mod Answered
pub mod Equality
pub mod LegalNext
pub mod LegalPrefix
pub mod Places
pub mod RefusalCases
pub mod RefusalCodes
pub mod WrongNumber
