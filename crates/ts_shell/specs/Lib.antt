pub mod Words
pub mod Making
pub mod Top
pub mod Migrating
pub mod Checking
