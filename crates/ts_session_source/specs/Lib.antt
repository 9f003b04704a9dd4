pub mod Fault
pub mod Opened
pub mod Sessions
pub mod Text
