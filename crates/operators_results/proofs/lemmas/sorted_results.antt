pub mod GatherLemmas
pub mod AnswerLemmas
pub mod ShownLemmas
