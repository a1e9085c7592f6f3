pub mod Automatic
pub mod AutomaticView
pub mod Worked
