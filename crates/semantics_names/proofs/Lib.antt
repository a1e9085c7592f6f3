pub mod OneLemmas
pub mod OutcomeLemmas
pub mod TypeLemmas
mod ScopeLemmas
mod SourceLemmas
pub mod FoundLemmas
mod SameLemmas
mod LimitLemmas
mod PlaceLemmas
