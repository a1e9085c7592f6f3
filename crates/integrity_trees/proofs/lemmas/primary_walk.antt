pub mod RowLemmas
pub mod CheckLemmas
pub mod UnbrokenLemmas
pub mod HeldLemmas
