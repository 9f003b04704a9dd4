pub mod Places
pub mod Stamped
pub mod Charge
pub mod Laws
