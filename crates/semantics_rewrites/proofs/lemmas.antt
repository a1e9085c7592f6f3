pub mod schema_sources
pub mod materialized_queries
