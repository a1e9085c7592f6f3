pub mod ShapeLemmas
pub mod LimitLemmas
