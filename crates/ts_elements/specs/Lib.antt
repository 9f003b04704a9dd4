pub mod Calls
pub mod Drops
pub mod Elements
pub mod Room
pub mod Stamps
