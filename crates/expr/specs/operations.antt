pub mod Operations
pub mod Functions
pub mod Like
pub mod Contract
pub mod Faults
