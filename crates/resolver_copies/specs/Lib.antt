pub mod schema_bodies
pub mod materialized_bodies
