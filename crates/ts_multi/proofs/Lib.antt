pub mod ConflictLemmas
pub mod ObjectLemmas
pub mod PickLemmas
pub mod ScheduleLemmas
pub mod SectionLemmas
pub mod SlotLemmas
