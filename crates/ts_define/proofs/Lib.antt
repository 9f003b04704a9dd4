pub mod DefinedLemmas
pub mod GridLemmas
pub mod PatternLemmas
pub mod RedefineLemmas
pub mod RowTypeLemmas
