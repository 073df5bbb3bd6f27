pub mod Heads
pub mod Onces
pub mod Own
pub mod Strands
pub mod Walked
pub mod Owners
