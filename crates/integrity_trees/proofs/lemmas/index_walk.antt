pub mod FieldLemmas
pub mod SeenLemmas
pub mod EntryLemmas
pub mod BranchLemmas
pub mod ColumnLemmas
pub mod OrderLemmas
pub mod ValueLemmas
pub mod CheckedLemmas
