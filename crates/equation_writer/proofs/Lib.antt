pub mod Counting
pub mod Casing
pub mod Finding
pub mod Grouping
pub mod Limiting
