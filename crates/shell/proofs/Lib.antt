pub mod SettledLemmas
pub mod RunLemmas
pub mod RunnableLemmas
pub mod NameLemmas
pub mod PreparedLemmas
pub mod ServedLemmas
pub mod AheadLemmas
pub mod SteppedLemmas
