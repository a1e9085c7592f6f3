pub mod Numbers
pub mod Ranking
pub mod ShiftView
