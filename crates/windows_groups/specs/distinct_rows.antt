pub mod Firsts
pub mod OnceView
