pub mod Marks
pub mod Links
pub mod FreeWalk
pub mod Free
