pub mod key_ranges
pub mod index_entries
pub mod cursor
