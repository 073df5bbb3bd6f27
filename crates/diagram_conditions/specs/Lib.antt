pub mod Plain
pub mod Leaving
pub mod Moves
pub mod Starts
pub mod Asked
pub mod Sound
