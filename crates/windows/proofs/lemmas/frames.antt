pub mod EdgeLemmas
pub mod CutLemmas
pub mod UnionLemmas
pub mod SliceLemmas
