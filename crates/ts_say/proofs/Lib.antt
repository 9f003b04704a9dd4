pub mod DigitsLemmas
pub mod PairsLemmas
pub mod NumberLemmas
pub mod PowersLemmas
pub mod BytesLemmas
pub mod DayLemmas
pub mod RowsLemmas
pub mod FoldsLemmas
