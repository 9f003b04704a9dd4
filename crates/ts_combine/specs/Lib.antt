pub mod Combine
pub mod Series
pub mod Rows
pub mod Call
pub mod Merge
pub mod Line
pub mod Reach
pub mod Moved
