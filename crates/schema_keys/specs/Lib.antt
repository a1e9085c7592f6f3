pub mod Missing
pub mod Names
pub mod Types
pub mod Created
pub mod Rows
pub mod declared_keys
pub mod table_keys
