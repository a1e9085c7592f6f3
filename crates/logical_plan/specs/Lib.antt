pub mod Plan
pub mod PlanView
pub mod Searches
pub mod Stands
pub mod Examples
pub mod JoinPlan
pub mod WindowedPlan
pub mod answers
