pub mod Moves
pub mod Choices
pub mod Reports
