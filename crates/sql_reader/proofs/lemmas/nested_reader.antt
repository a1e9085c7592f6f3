pub mod PhraseLemmas
