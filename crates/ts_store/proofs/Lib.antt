mod CutLemmas
pub mod JoinLemmas
pub mod ReadLemmas
mod CacheLemmas
mod GetLemmas
mod KeepLemmas
pub mod CommitLemmas
pub mod CallerLemmas
