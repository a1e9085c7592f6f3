pub mod KeyLemmas
pub mod ColumnLemmas
pub mod TreeLemmas
