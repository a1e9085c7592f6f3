pub mod WordLemmas
pub mod BodyLemmas
pub mod ReferenceLemmas
pub mod ConstraintLemmas
pub mod TypeLemmas
pub mod ColumnLemmas
