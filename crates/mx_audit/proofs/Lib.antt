pub mod EarlierLemmas
pub mod ExplainingLemmas
pub mod StepLemmas
pub mod SoundLemmas
pub mod ResolutionLemmas
pub mod ToldLemmas
