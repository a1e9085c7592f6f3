pub mod source_reader
pub mod query_reader
pub mod statement_reader
pub mod nested_reader
pub mod statement_limits
