pub mod SelectedLemmas
pub mod AppendLemmas
pub mod IdLemmas
pub mod PrefixLemmas
pub mod RedactionRows
pub mod EventKeyLemmas
pub mod LookupLemmas
pub mod PlaceLemmas
pub mod PartTextLemmas
mod TextPieceLemmas
