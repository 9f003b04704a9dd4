pub mod HeadLemmas
pub mod PagesLemmas
pub mod ReadsLemmas
mod MemoryLemmas
