pub mod Moment
pub mod Refusal
pub mod Name
pub mod Fault
pub mod Answer
