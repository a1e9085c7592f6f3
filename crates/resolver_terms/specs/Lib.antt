pub mod Outcome
pub mod SelectView
