pub mod Over
pub mod group_plans
pub mod window_plans
pub mod table_plans
