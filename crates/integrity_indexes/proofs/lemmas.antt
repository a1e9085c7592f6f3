pub mod entry_batches
pub mod index_batches
pub mod index_rows
pub mod row_batches
