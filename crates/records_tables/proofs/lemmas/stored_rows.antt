pub mod RowLemmas
pub mod FilledLemmas
pub mod CellLemmas
pub mod KeyLemmas
pub mod ReadingLemmas
pub mod KindLemmas
pub mod LinkLemmas
pub mod OneLemmas
