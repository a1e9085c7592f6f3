pub mod Replies
pub mod Run
pub mod Stands
pub mod SessionState
