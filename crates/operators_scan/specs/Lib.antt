pub mod SourceData
pub mod Coming
pub mod scan
pub mod tested_rows
