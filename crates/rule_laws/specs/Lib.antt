pub mod Invariance
pub mod WaitingFor
pub mod Names
pub mod RankedNet
pub mod NestedNet
pub mod Diagrams
pub mod Laws
