pub mod Transposed
