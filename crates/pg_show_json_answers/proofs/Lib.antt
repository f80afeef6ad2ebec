pub mod OnLiterals
mod Pieces
