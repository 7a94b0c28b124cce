pub mod CallerLemmas
pub mod MemorySending
