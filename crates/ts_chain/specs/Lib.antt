pub mod Call
pub mod Window
pub mod Halves
