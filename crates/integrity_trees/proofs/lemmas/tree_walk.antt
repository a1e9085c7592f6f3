pub mod CountLemmas
pub mod LinkLemmas
pub mod UsedLemmas
pub mod ShapeLemmas
