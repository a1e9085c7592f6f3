pub mod CreateTrees
pub mod CreateView
