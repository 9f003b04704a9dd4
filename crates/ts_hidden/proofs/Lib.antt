pub mod CallerLemmas
mod ElementLemmas
mod SpareLemmas
mod RollingLemmas
mod LawLemmas
mod CoverLemmas
mod MarkLemmas
