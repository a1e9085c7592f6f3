pub mod Entries
pub mod Repeats
pub mod Last
pub mod Counting
pub mod Prefixes
