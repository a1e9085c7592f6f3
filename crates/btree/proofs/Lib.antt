pub mod CellLemmas
pub mod PageLemmas
pub mod SeenLemmas
pub mod ChainLemmas
pub mod KindLemmas
pub mod lemmas
