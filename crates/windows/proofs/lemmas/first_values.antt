pub mod BestLemmas
