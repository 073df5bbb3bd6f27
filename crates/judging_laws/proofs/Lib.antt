pub mod Searching
pub mod Counted
pub mod Levels
pub mod Sentences
