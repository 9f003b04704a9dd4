pub mod Cell
pub mod Pages
pub mod Unchanged
pub mod Memory
