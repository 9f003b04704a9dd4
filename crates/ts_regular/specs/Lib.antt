pub mod RegularPage
pub mod Places
pub mod Call
pub mod OnePage
pub mod Range
pub mod Cut
