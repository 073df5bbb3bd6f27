pub mod Runs
pub mod Holds
pub mod Invariants
