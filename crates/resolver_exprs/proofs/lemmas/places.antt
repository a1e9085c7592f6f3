pub mod ListedLemmas
pub mod FirstLemmas
pub mod AggregateLemmas
