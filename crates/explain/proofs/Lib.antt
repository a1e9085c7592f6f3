pub mod LineLemmas
pub mod LiteralLemmas
pub mod PlanLemmas
pub mod RowLemmas
pub mod ExampleLemmas
