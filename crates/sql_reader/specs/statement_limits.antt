pub mod Selects
pub mod Limits
pub mod Spending
