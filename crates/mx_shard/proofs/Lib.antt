pub mod JournalLaws
pub mod LegalLaws
mod Places
mod RoomLemmas
mod HolderLemmas
pub mod ChangeLemmas
mod StoredLemmas
mod IndexLemmas
mod HeldLemmas
mod ReopenLemmas
mod TakenLemmas
pub mod AgainLemmas
