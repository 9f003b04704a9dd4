pub mod Clip
pub mod Edit
pub mod Ends
