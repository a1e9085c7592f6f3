pub mod KnownLemmas
pub mod PutLemmas
