pub mod WithView
pub mod Whole
