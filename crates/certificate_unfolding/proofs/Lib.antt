pub mod Unfolding
pub mod Counting
pub mod Spelling
