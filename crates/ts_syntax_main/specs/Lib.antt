pub mod StdOutput
