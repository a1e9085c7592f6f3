pub mod AppendLemmas
pub mod InputLemmas
