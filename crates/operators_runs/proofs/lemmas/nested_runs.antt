pub mod NestedLemmas
pub mod PlannedLemmas
pub mod StepLemmas
