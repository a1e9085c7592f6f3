pub mod CountLemmas
pub mod NameLemmas
pub mod ItemLemmas
pub mod StatementLemmas
pub mod LevelLemmas
