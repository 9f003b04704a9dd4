pub mod Aggregates
pub mod Spelling
pub mod Sums
pub mod Running
pub mod Laws
