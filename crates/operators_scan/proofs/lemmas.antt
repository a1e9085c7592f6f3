pub mod scan
pub mod tested_rows
