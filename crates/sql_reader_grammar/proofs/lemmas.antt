pub mod phrases
pub mod same_queries
