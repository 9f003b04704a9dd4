pub mod Carrier
pub mod Hall
pub mod Ran
