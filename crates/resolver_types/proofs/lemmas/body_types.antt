pub mod ColumnLemmas
pub mod FromLemmas
pub mod BodyLemmas
