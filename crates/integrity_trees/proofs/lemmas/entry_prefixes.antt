pub mod ListLemmas
pub mod EntryLemmas
pub mod AgreeLemmas
pub mod FieldLemmas
pub mod CountLemmas
pub mod PrefixLemmas
