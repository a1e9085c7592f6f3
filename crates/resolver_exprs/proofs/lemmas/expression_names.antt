pub mod OutcomeLemmas
pub mod PartLemmas
