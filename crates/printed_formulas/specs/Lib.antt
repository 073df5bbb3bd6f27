pub mod Loose
pub mod Printable
pub mod Theorems
