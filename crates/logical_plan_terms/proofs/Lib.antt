pub mod PlacedLemmas
pub mod ItselfLemmas
pub mod OverLemmas
pub mod ConjunctLemmas
pub mod lemmas
