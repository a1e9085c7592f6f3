pub mod FromLemmas
