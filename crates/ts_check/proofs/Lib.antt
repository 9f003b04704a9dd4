pub mod WalkLemmas
pub mod ReportLemmas
pub mod VolumeLemmas
pub mod ListLemmas
pub mod GoodLemmas
pub mod ElementsLemmas
