pub mod column_reader
