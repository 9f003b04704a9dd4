pub mod CallerLemmas
mod ChargedLemmas
mod RedefinedLemmas
