pub mod Flat
pub mod FlatTyped
pub mod FlatWith
pub mod Parts
pub mod Examples
