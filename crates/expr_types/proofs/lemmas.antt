pub mod same_trees
