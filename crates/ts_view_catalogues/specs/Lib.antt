pub mod Catalogues
pub mod Laws
