pub mod TextLemmas
pub mod SlotLemmas
pub mod RunLemmas
