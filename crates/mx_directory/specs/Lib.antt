pub mod LogDamage
pub mod ServerErrors
pub mod ServerFile
pub mod WatchedKeepers
