pub mod FoldLemmas
pub mod LawLemmas
pub mod MemoryLemmas
pub mod OrderLemmas
pub mod ReadingLemmas
pub mod SeenLemmas
pub mod StartLemmas
