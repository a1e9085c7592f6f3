pub mod JoinedLemmas
pub mod ResultLemmas
pub mod ArmLemmas
pub mod OrderLemmas
pub mod PermittedLemmas
