pub mod Laws
pub mod LogOf
pub mod Machine
pub mod Steps
pub mod Turns
