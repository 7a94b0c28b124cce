pub mod GrammarRows
