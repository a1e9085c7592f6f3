pub mod Windowed
pub mod Laws
