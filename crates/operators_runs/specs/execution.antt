pub mod Columns
pub mod Given
