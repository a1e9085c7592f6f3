pub mod Steps
pub mod Resolved
