pub mod BodyView
pub mod NamedView
