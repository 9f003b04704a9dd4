pub mod Fresh
pub mod Shelf
