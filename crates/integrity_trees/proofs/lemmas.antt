pub mod tree_walk
pub mod wanted_entries
pub mod entry_rows
pub mod index_walk
pub mod entry_prefixes
pub mod primary_walk
pub mod table_walk
