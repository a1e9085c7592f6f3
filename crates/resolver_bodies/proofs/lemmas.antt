pub mod same_bodies
