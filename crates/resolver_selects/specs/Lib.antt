pub mod BehindView
pub mod Groups
pub mod NamedView
pub mod window_names
pub mod window_calls
pub mod select_clauses
pub mod result_columns
