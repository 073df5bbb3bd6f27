pub mod Faultless
pub mod Depths
pub mod Reading
pub mod Choices
pub mod Walked
