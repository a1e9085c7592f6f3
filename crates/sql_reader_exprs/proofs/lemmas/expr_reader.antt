pub mod OperatorLemmas
pub mod ClosedLemmas
