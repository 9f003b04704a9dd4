pub mod Opening
pub mod Engine
pub mod Faults
