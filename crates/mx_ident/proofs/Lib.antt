pub mod ColonLemmas
pub mod HostLemmas
pub mod OctetLemmas
pub mod PartsLemmas
pub mod IdentifierRows
