pub mod Varint
pub mod Serial
pub mod Record
pub mod Fields
