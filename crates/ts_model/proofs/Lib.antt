pub mod OrderLemmas
pub mod SlotLemmas
pub mod IndexLemmas
pub mod VacantLemmas
pub mod TableLemmas
pub mod PartsLemmas
