pub mod StepLemmas
pub mod KeptLemmas
pub mod RowLemmas
pub mod lemmas
