pub mod CallerLemmas
mod OpeningLemmas
mod PullLemmas
mod TakenLemmas
