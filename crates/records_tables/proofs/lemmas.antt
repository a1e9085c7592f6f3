pub mod stored_rows
pub mod primary_rows
