pub mod Same
pub mod Refused
pub mod Whole
pub mod Pieces
pub mod Touching
pub mod Written
