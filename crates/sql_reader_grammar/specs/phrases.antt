pub mod Lists
pub mod Texts
pub mod Steps
pub mod Outcomes
