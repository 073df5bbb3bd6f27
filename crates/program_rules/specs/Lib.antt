pub mod Changes
pub mod Groups
pub mod Lawful
pub mod Theorems
