pub mod BoundLemmas
pub mod HeadLemmas
pub mod TreeLemmas
pub mod WalkLemmas
pub mod HeldLemmas
pub mod UsedLemmas
pub mod CheckedLemmas
pub mod GatherLemmas
