pub mod ItemLaws
pub mod FeedLemmas
pub mod ItemLemmas
pub mod PartsLemmas
pub mod PlaceLemmas
pub mod RunLemmas
