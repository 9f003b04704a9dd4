pub mod Texts
pub mod Script
pub mod Laws
pub mod OfCatalogue
