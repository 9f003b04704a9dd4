pub mod FileSite
pub mod StdSource
