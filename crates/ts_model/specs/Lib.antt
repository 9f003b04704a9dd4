pub mod Catalogue
pub mod Charge
pub mod Definitions
pub mod Format
pub mod Table
pub mod Parts
