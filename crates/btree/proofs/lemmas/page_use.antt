pub mod MarkLemmas
pub mod ChainMarks
pub mod FreeLemmas
pub mod WalkLemmas
pub mod FrontLemmas
