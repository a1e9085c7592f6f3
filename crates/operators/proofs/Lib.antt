pub mod TreeLemmas
pub mod AskedLemmas
pub mod StepLemmas
pub mod StartLemmas
pub mod GroupLemmas
pub mod WindowLemmas
pub mod FlaggedLemmas
pub mod ReadLemmas
