pub mod Canonical
pub mod KeyOrder
pub mod Faults
pub mod Reading
pub mod Sinks
pub mod Pieces
