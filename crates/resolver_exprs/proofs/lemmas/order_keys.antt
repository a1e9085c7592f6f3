pub mod KeyLemmas
pub mod NamedLemmas
