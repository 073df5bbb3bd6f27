pub mod Order
pub mod Theorems
