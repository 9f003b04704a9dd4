mod AttemptLemmas
mod BesideLemmas
pub mod CallerLemmas
mod CommitLemmas
mod CoverLemmas
mod KeepLemmas
mod OneLemmas
mod OpenLemmas
mod OwnLemmas
mod PlaceLemmas
mod ProceedLemmas
mod ReadLemmas
mod ReplayLemmas
mod StayLemmas
mod TurnLemmas
mod ViewLemmas
