pub mod CompoundLemmas
pub mod DepthLemmas
