pub mod Ranges
pub mod Laws
pub mod View
pub mod Runs
pub mod Examples
