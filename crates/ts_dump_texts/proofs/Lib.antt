pub mod TokenLemmas
pub mod PrintedLemmas
pub mod NumberLemmas
pub mod ColumnLemmas
pub mod StatementLemmas
pub mod EndLemmas
pub mod LineLemmas
pub mod ItemLemmas
