pub mod CodeLemmas
pub mod CutLemmas
pub mod KeyLemmas
pub mod AddLemmas
