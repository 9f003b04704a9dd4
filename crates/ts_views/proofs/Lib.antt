pub mod CallerLemmas
pub mod KeepLemmas
pub mod ReadLemmas
pub mod StayLemmas
pub mod TurnLemmas
