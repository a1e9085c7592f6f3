pub mod Detail
pub mod Held
