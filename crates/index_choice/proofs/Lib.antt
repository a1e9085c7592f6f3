pub mod BoundLemmas
pub mod ImplyLemmas
pub mod RunLemmas
pub mod LeastLemmas
pub mod SearchLemmas
pub mod FirstLemmas
pub mod MapLemmas
