pub mod Numbers
pub mod DefinedView
pub mod Sorting
