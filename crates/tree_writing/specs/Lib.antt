pub mod Branches
pub mod Standing
