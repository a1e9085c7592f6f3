pub mod Within
pub mod Settled
pub mod Examples
