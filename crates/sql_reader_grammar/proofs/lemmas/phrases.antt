pub mod OutcomeLemmas
pub mod StepLemmas
pub mod TurnLemmas
pub mod ListLemmas
pub mod PhraseLemmas
pub mod TextLemmas
