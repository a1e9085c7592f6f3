pub mod CellLemmas
pub mod BudgetLemmas
pub mod ComingLemmas
