pub mod KeyLemmas
pub mod SortLemmas
pub mod GroupLemmas
pub mod EntryLemmas
pub mod RankLemmas
pub mod NumberLemmas
pub mod WalkLemmas
