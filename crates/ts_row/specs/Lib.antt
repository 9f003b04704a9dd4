pub mod Row
pub mod Encoding
pub mod Decoding
