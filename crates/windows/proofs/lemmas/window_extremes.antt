pub mod StretchLemmas
pub mod ChosenLemmas
