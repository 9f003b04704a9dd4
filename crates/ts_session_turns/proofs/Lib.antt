mod AnswerLemmas
mod BeginLemmas
mod CommitLemmas
mod InsideLemmas
mod LogLemmas
mod MachineLemmas
mod OpenLemmas
mod OutsideLemmas
mod ReadyLemmas
mod StandLemmas
mod TurnedLemmas
pub mod CallerLemmas
