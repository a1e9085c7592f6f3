pub mod Codes
pub mod Batches
