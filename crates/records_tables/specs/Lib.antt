pub mod Tables
pub mod Keyed
pub mod Reading
pub mod stored_rows
pub mod primary_rows
