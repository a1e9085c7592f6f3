pub mod Bags
pub mod Wanted
pub mod Unique
pub mod Examples
