mod CacheLaws
mod CacheLemmas
pub mod CallerLemmas
