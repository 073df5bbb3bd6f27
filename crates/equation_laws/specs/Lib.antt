pub mod Sums
pub mod Moving
pub mod Space
pub mod Rows
pub mod Equations
