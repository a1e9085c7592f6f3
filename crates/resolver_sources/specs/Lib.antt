pub mod source_names
pub mod from_names
pub mod inner_names
pub mod single_names
