pub mod InnerView
pub mod InnerNames
