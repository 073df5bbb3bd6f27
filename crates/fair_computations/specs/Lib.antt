pub mod Computations
pub mod Fair
pub mod Endless
pub mod Goals
