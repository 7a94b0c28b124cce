pub mod Level
pub mod Sources
