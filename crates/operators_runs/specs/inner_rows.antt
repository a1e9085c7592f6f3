pub mod Runnable
pub mod InnerView
pub mod Computed
pub mod Work
pub mod WorkExamples
pub mod Over
