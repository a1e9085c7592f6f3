pub mod Outermost
pub mod ItemLemmas
pub mod ErrLemmas
