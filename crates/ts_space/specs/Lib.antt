pub mod Place
pub mod Directory
pub mod Charge
pub mod Moved
