pub mod CallerLemmas
mod DigitLemmas
mod FrontLemmas
mod SpellingLemmas
mod FollowLemmas
mod PhraseLemmas
mod TokenLemmas
mod SignLemmas
mod ListLemmas
mod PlaceLemmas
mod PlainLemmas
mod PartedLemmas
mod OnwardLemmas
