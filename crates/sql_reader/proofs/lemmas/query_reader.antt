pub mod CompoundLemmas
pub mod Shrinking
