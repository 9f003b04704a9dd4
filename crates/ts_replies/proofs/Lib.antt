pub mod Behind
pub mod Hearing
pub mod Steps
pub mod Apart
