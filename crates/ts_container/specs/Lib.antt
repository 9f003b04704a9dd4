pub mod Lower
pub mod Reading
pub mod Fault
pub mod Survey
pub mod Spans
pub mod Elements
pub mod KeptCharges
