pub mod RowLemmas
pub mod QuoteLemmas
pub mod SinkLemmas
