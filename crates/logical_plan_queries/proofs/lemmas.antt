pub mod select_plans
pub mod compound_plans
pub mod plan_sources
