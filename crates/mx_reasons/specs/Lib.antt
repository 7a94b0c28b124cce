pub mod JudgedView
pub mod Reasons
pub mod Because
pub mod Facts
