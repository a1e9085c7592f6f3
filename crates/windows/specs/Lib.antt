pub mod Wanted
pub mod window_entries
pub mod window_partitions
pub mod frames
pub mod first_values
pub mod window_totals
pub mod window_extremes
pub mod window_results
