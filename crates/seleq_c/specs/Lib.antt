pub mod Owned
pub mod Lent
pub mod Called
pub mod Shown
