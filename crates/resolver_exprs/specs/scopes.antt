pub mod Next
pub mod ResultView
pub mod Using
