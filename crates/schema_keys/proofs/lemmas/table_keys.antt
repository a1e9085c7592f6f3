pub mod AutomaticLemmas
pub mod WorkedLemmas
