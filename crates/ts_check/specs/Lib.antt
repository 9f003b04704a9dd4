pub mod Report
pub mod Listed
pub mod Judged
pub mod Checked
