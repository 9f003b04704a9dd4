pub mod Application
pub mod ApplicationLaws
pub mod Call
pub mod Run
pub mod RunLaws
