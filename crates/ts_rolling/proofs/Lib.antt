pub mod DigitLemmas
pub mod KeyLemmas
pub mod PlanLemmas
pub mod NumberedLemmas
