pub mod Explained
pub mod Refused
