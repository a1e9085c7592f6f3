pub mod Work
pub mod Arms
