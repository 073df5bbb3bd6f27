pub mod Cases
pub mod Nets
pub mod Diagrams
pub mod Scripts
pub mod Laws
