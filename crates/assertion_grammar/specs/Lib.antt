pub mod Standing
pub mod Theorems
