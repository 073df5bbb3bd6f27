pub mod System
pub mod Theorems
