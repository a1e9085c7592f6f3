pub mod OrderLemmas
pub mod RankLemmas
pub mod LimitLemmas
pub mod FirstLemmas
pub mod lemmas
