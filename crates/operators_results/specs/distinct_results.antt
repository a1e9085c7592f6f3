pub mod Firsts
pub mod Coming
