pub mod GivenView
pub mod Matched
