pub mod AskedLemmas
pub mod ColumnLemmas
pub mod GivenLemmas
