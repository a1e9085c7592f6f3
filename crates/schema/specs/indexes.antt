pub mod IndexData
pub mod IndexView
pub mod Condition
pub mod Others
pub mod Indexed
pub mod Refused
pub mod KeyIndexes
pub mod KeyIndexView
