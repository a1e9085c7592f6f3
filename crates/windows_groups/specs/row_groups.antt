pub mod GroupView
pub mod Gathered
pub mod Kept
