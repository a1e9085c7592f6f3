pub mod Tables
pub mod Denotes
pub mod Indexes
pub mod Keys
pub mod Used
pub mod Checked
pub mod CheckedView
pub mod Searched
