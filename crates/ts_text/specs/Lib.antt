pub mod Misfit
pub mod Parted
pub mod Phrase
pub mod Place
pub mod Spelling
