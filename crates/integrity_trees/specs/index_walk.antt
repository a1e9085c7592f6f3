pub mod Widths
pub mod Last
pub mod Broken
pub mod Checked
pub mod Walked
