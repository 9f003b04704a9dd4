pub mod Edit
pub mod OnePage
pub mod Call
