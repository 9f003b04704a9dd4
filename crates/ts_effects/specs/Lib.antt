pub mod Applied
pub mod Charged
