pub mod Entries
pub mod Groups
pub mod Placed
pub mod Ranks
