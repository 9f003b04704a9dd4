pub mod Acknowledged
pub mod Said
