pub mod Splitting
pub mod Loops
pub mod Values
pub mod Placing
pub mod Cutting
