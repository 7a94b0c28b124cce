pub mod Versions
pub mod StateView
pub mod Rules
pub mod Joins
pub mod RuleCode
pub mod Entries
pub mod Keys
