pub mod Readings
pub mod Running
