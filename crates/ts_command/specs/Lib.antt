pub mod Routines
pub mod Grammar
pub mod Misfit
pub mod Form
pub mod Boundary
