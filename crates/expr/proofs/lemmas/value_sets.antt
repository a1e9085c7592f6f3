pub mod AmongLemmas
pub mod NumberLemmas
pub mod EqualLemmas
