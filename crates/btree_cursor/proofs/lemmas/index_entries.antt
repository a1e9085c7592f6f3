pub mod KeyLemmas
pub mod EntryLemmas
