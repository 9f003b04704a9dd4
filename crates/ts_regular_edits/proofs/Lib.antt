pub mod AbsentLemmas
pub mod AddressLemmas
pub mod EditLemmas
pub mod StampLemmas
pub mod RangeLemmas
