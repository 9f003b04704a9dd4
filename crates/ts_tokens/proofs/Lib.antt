pub mod CallerLemmas
mod RunLemmas
mod TokenLengths
mod TokenLemmas
mod TextLemmas
mod WordLemmas
mod TextFormLemmas
mod NumberFormLemmas
mod KeptLemmas
mod FrontLemmas
