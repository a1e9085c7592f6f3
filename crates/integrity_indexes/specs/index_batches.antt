pub mod Placed
pub mod Trees
