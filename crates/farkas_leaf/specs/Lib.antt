pub mod Leaf
pub mod Lines
pub mod Windows
pub mod Lent
