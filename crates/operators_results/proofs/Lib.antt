pub mod SliceLemmas
pub mod StreamLemmas
pub mod lemmas
