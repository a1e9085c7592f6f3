pub mod SingleView
pub mod Singles
