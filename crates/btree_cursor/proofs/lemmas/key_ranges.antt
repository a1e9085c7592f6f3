pub mod RangeLemmas
pub mod BagLemmas
pub mod RunLemmas
pub mod NullLemmas
