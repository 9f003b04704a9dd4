pub mod ApartLemmas
pub mod CallerLemmas
mod CarriedLemmas
mod DeletedLemmas
mod GridLemmas
mod LineLemmas
mod NameLemmas
mod OutcomeLemmas
mod ReplyLemmas
mod StateLemmas
mod TriedLemmas
mod ViewLemmas
