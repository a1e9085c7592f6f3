pub mod table_keys
