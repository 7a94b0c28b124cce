pub mod Identifier
