pub mod window_order
pub mod distinct_rows
pub mod aggregates
pub mod row_groups
