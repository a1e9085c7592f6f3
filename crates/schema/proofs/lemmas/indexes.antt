pub mod IndexLemmas
pub mod KeyIndexLemmas
pub mod ConditionLemmas
