pub mod OrderLemmas
pub mod DenseLemmas
pub mod StartLemmas
pub mod ChargeLemmas
