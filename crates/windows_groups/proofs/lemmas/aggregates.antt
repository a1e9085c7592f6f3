pub mod StateLemmas
pub mod MemberLemmas
