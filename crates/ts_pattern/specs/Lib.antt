pub mod Patterns
pub mod Growth
pub mod Line
pub mod Spelling
