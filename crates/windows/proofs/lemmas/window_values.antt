pub mod LookupLemmas
pub mod RankLemmas
