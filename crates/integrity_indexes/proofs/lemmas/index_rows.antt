pub mod ListLemmas
pub mod ConditionLemmas
pub mod CountLemmas
pub mod StandLemmas
pub mod RowLemmas
pub mod LookLemmas
pub mod CompareLemmas
pub mod IndexedLemmas
