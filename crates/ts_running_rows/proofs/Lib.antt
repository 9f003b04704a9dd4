pub mod RunLemmas
pub mod HandLemmas
pub mod NumberLemmas
pub mod MadeLemmas
