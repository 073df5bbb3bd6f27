pub mod Denoting
pub mod Meaning
pub mod Sizes
pub mod Theorems
