pub mod RunLemmas
pub mod CutLemmas
