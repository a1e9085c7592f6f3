pub mod Framed
pub mod Known
pub mod Over
pub mod Put
