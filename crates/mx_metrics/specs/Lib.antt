pub mod Counts
pub mod Labels
pub mod Latencies
pub mod Samples
pub mod ShardCounts
