pub mod Choices
pub mod Weights
pub mod Atoms
pub mod Order
