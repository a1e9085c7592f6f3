pub mod Sought
pub mod Entries
