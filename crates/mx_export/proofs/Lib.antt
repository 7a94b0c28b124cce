pub mod LeftLemmas
pub mod ArrangingLemmas
pub mod CollectingLemmas
pub mod ArrangedLaws
pub mod WritingLemmas
pub mod OrderLaws
pub mod IdLaws
pub mod MissingLemmas
