pub mod OrderLemmas
pub mod StatementLemmas
