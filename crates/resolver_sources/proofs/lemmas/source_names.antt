pub mod KnownLemmas
pub mod UsingLemmas
pub mod JoinLemmas
