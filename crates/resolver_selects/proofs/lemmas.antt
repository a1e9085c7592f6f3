pub mod window_names
pub mod window_calls
pub mod select_clauses
pub mod result_columns
