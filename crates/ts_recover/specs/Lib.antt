pub mod Overlay
pub mod Reading
