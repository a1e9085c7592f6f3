pub mod term_types
pub mod body_types
