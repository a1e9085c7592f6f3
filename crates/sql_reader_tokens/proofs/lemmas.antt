pub mod byte_runs
pub mod source_texts
