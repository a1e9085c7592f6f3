pub mod clause_reader
pub mod window_reader
pub mod case_reader
pub mod expr_reader
