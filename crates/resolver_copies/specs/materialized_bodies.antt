pub mod FlatView
