pub mod execution
pub mod inner_rows
pub mod nested_runs
