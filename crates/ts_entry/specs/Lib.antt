pub mod Entry
pub mod Rows
pub mod Stamps
pub mod Handed
