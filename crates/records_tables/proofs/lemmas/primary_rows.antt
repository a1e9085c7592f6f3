pub mod FirstLemmas
pub mod ToldLemmas
pub mod KeyLemmas
