pub mod Between
pub mod Call
pub mod Chain
pub mod Grid
pub mod Numbered
pub mod Series
