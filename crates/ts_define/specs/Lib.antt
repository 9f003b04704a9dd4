pub mod Format
pub mod Patterns
pub mod RowTypes
