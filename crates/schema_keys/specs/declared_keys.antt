pub mod Keys
pub mod KeyView
