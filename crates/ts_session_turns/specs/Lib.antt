pub mod Hand
pub mod Turned
pub mod Engine
pub mod Passed
pub mod Faults
