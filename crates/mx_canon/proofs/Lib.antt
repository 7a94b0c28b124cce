pub mod FaultLemmas
pub mod TextLemmas
pub mod KeyLemmas
pub mod CodePoints
pub mod PieceLemmas
pub mod PlainLemmas
pub mod RunLemmas
pub mod CanonicalRows
