pub mod ZipLemmas
