pub mod Plain
pub mod Proper
pub mod Sentences
pub mod Sizes
pub mod Sums
pub mod Texts
