pub mod Commit
pub mod Log
pub mod Objects
pub mod Picks
pub mod Schedule
pub mod Sections
pub mod Slot
pub mod Touched
