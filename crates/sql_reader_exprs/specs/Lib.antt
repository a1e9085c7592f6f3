pub mod lookahead
pub mod clause_reader
pub mod window_reader
