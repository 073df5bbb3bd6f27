pub mod Faultless
pub mod Choices
pub mod Walked
pub mod Found
