pub mod FieldLemmas
pub mod ListedLemmas
pub mod LookupLemmas
pub mod MetLemmas
