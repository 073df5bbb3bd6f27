pub mod Pieces
pub mod Along
pub mod Levels
pub mod Numbers
