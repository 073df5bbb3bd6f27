pub mod Paths
pub mod Faults
pub mod Refusals
pub mod Weights
pub mod Atoms
pub mod Large
pub mod Answers
