pub mod CellLemmas
pub mod PageLemmas
pub mod JudgeLemmas
pub mod HeadLemmas
