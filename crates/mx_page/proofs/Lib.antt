pub mod ChangeLemmas
pub mod DataLemmas
pub mod EscapingLemmas
pub mod OneStateLemmas
pub mod OwnChangeLemmas
pub mod PartLemmas
pub mod PieceLemmas
pub mod PutChangeLemmas
