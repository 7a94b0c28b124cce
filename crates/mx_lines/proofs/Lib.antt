pub mod CutLemmas
pub mod LineLemmas
pub mod WalkLemmas
pub mod ScanLemmas
