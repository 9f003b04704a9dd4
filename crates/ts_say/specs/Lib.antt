pub mod Day
pub mod Folded
