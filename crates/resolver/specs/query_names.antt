pub mod Compounds
pub mod Nested
