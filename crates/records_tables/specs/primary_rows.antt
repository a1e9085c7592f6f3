pub mod Firsts
pub mod Held
pub mod Order
pub mod Rows
