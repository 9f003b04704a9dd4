pub mod Catalogue
pub mod Commands
pub mod Laws
pub mod OfCatalogues
pub mod EditLaws
pub mod JoinLaws
pub mod Scripts
