pub mod Integers
pub mod Numbers
pub mod Truths
pub mod Types
