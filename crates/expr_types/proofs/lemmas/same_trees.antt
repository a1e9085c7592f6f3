pub mod SameLemmas
pub mod MemberLemmas
