pub mod JournalLemmas
pub mod JournalRows
pub mod IndexLemmas
pub mod StoredLemmas
pub mod ReopenLemmas
pub mod AgainLemmas
