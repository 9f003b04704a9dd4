pub mod CallerLemmas
pub mod CatalogueLemmas
