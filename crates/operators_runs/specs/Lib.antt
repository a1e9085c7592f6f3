pub mod Faults
pub mod Printed
pub mod Stream
pub mod Runs
pub mod execution
pub mod inner_rows
pub mod nested_runs
