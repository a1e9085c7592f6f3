pub mod Stored
pub mod Reading
pub mod RowFaults
pub mod Keys
pub mod Links
