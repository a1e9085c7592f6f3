pub mod InputLemmas
pub mod PartLemmas
pub mod BehindLemmas
pub mod OnLemmas
pub mod RowLemmas
pub mod HitLemmas
pub mod WholeLemmas
