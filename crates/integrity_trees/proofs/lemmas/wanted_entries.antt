pub mod BagLemmas
pub mod OrderLemmas
pub mod NeighbourLemmas
pub mod KeptLemmas
