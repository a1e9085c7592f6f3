pub mod operations
pub mod value_sets
