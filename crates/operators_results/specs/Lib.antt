pub mod Slices
pub mod Coming
pub mod distinct_results
pub mod compound_results
