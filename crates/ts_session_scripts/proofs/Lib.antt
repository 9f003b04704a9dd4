pub mod CallerLemmas
mod OrderLemmas
mod PieceLemmas
mod ScheduleLemmas
