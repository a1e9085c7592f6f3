pub mod KeyLemmas
pub mod AnyLemmas
pub mod GatherLemmas
pub mod LawLemmas
