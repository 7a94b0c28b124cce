pub mod Changes
pub mod Escaping
pub mod EntryTexts
pub mod Page
pub mod EntryParts
