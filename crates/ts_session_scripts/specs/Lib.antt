pub mod Piece
pub mod Script
