pub mod Observation
pub mod Rounds
pub mod Goals
pub mod Waits
pub mod RankedNet
pub mod NestedNet
pub mod Diagram
pub mod Extension
