pub mod ContentLemmas
pub mod LevelRows
