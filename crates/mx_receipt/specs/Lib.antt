pub mod Receipt
pub mod KeptCode
pub mod TimelineView
pub mod Citing
pub mod Judgements
pub mod Resolutions
pub mod Timelines
