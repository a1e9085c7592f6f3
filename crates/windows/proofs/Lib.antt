pub mod NumberedLemmas
pub mod WantedLemmas
pub mod PartLemmas
pub mod AllLemmas
pub mod OrderedLemmas
pub mod LawLemmas
pub mod BehindLemmas
pub mod lemmas
