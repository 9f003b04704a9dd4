pub mod PlaceLemmas
pub mod DirectoryLemmas
pub mod PlaceLaws
pub mod ChargeLemmas
pub mod MovedLemmas
