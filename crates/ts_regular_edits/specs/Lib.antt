pub mod Address
pub mod Edit
pub mod Element
pub mod Range
