pub mod TableData
pub mod MissingView
pub mod RowKeyView
pub mod ColumnTypes
pub mod table_copies
