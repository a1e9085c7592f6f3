pub mod WorkLemmas
pub mod ArmLemmas
