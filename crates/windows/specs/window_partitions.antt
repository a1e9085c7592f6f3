pub mod Tagged
pub mod Partition
