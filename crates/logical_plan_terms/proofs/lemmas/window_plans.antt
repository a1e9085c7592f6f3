pub mod ItselfLemmas
pub mod SeenLemmas
pub mod RowLemmas
pub mod HitLemmas
