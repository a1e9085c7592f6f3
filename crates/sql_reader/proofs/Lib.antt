pub mod TextLemmas
pub mod lemmas
