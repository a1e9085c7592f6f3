pub mod PlanText
pub mod Text
