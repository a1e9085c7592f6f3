pub mod Sources
pub mod Joined
pub mod Arms
pub mod Answers
pub mod Permitted
