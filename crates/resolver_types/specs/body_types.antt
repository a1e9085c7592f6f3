pub mod Groups
pub mod Tables
pub mod Rows
pub mod RowView
