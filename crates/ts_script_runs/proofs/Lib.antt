mod ApartLemmas
mod FeedLemmas
mod ItemLemmas
mod OpenedLemmas
mod RunLemmas
