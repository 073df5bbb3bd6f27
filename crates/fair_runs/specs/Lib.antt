pub mod Programs
pub mod Goals
pub mod Sequences
pub mod Meeting
pub mod Kept
pub mod Promises
