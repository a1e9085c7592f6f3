pub mod Answers
pub mod Served
pub mod Made
pub mod Places
pub mod Laws
pub mod select_plans
pub mod compound_plans
pub mod plan_sources
