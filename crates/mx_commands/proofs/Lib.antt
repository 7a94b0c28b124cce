pub mod LineKindLemmas
