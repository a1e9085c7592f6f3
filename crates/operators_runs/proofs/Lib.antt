pub mod RowLemmas
pub mod StreamLemmas
pub mod KeptLemmas
pub mod SourceLemmas
pub mod PrintedLemmas
pub mod AnswerLemmas
pub mod WrittenLemmas
pub mod lemmas
