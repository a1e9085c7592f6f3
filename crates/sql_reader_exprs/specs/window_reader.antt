pub mod Setting
pub mod Views
