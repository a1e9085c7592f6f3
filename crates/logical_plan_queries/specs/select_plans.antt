pub mod Columns
pub mod Served
pub mod Read
pub mod Made
pub mod Laws
