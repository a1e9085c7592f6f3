pub mod CodeLemmas
pub mod KeptLemmas
pub mod GatherLemmas
pub mod BatchLemmas
