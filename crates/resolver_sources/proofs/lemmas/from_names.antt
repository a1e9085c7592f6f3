pub mod StepLemmas
pub mod FromLemmas
