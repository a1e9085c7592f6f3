pub mod MappedLemmas
pub mod SelectHitLemmas
pub mod RowLemmas
pub mod HitLemmas
pub mod TypeLemmas
pub mod ExampleLemmas
