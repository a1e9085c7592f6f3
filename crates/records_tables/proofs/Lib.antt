pub mod PlaceLemmas
pub mod FieldLemmas
pub mod KeyLemmas
pub mod TableLemmas
pub mod lemmas
