pub mod Hidden
pub mod Marks
