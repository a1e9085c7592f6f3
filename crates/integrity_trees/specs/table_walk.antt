pub mod Walked
pub mod Checked
