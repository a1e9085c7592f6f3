mod KnownLemmas
mod RefusalLemmas
mod ResolvedLemmas
pub mod lemmas
