pub mod ColumnGrammar
pub mod ColumnReading
