pub mod Calendars
pub mod Dated
pub mod Line
pub mod Front
pub mod Written
pub mod Spelling
