pub mod CallerLemmas
mod PlaceLemmas
mod PageOrderLemmas
mod FirstBadLemmas
mod SaidLemmas
mod BadPageLemmas
