pub mod NextStep
pub mod Alike
pub mod BodyLemmas
pub mod PartLemmas
pub mod PlaceLemmas
pub mod StatusLemmas
pub mod RefusalLemmas
pub mod RoomLemmas
pub mod RunLemmas
pub mod MakingLemmas
pub mod StorageLemmas
pub mod NextEventLemmas
pub mod TextLemmas
pub mod StepRows
mod AskingLemmas
mod UnfitLemmas
pub mod ReopeningLemmas
pub mod CrashLemmas
pub mod StopLemmas
pub mod OrderLemmas
mod LossLemmas
