pub mod ExampleLemmas
pub mod SetLemmas
pub mod ArmLemmas
pub mod ChainLemmas
pub mod SlicedLemmas
