pub mod OverLemmas
pub mod SeenLemmas
pub mod WidthLemmas
pub mod RowLemmas
pub mod HitLemmas
