pub mod Tokens
pub mod NumberForm
pub mod TextForm
