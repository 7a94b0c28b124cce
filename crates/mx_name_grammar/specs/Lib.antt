pub mod NameGrammar
