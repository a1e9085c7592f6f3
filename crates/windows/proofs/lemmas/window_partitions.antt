pub mod KeptLemmas
pub mod PlaceLemmas
pub mod AlikeLemmas
pub mod TagLemmas
pub mod PartLemmas
