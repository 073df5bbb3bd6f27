pub mod Appends
pub mod Kept
pub mod Loops
pub mod Whole
