pub mod FirstLemmas
pub mod OnceLemmas
