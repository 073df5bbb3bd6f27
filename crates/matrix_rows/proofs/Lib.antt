pub mod Kept
pub mod Mixed
