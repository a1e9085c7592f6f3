mod StepLemmas
mod GroupLemmas
mod KeyLemmas
pub mod lemmas
