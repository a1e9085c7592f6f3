pub mod Basis
pub mod Left
