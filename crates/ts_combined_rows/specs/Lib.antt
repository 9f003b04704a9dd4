pub mod Aggregates
pub mod Combining
pub mod Gathered
pub mod MoveLaws
pub mod Moves
pub mod Pairs
pub mod Placed
