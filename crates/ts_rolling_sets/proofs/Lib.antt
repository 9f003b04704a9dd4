pub mod CallerLemmas
mod ClipLemmas
mod ControlLemmas
mod HomeLemmas
mod NearLemmas
mod OrderLemmas
mod PickedLemmas
mod SaidLemmas
mod SearchLemmas
mod WindowLemmas
