pub mod BerthLemmas
pub mod MoveLemmas
pub mod ViewLemmas
