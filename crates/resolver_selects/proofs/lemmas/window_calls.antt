pub mod RankingLemmas
pub mod CallLemmas
