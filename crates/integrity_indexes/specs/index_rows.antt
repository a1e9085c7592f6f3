pub mod Entries
pub mod Rows
pub mod Kept
pub mod Checked
pub mod Compared
pub mod Indexed
