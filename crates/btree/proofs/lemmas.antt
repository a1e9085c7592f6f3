pub mod image
pub mod page_use
