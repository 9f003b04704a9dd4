pub mod View
pub mod Pages
pub mod Laws
pub mod Lends
