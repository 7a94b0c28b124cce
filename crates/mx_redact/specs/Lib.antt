pub mod Fields
pub mod Redaction
pub mod Hashes
pub mod Selected
pub mod EventKeys
pub mod Places
pub mod Hashers
pub mod PartTexts
