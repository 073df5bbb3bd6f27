pub mod Dealt
pub mod Marked
pub mod Pieces
pub mod Searched
pub mod Verdicts
