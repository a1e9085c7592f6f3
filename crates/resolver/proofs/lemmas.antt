pub mod query_names
pub mod statement_names
pub mod query_types
