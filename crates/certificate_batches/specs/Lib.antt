pub mod Finding
pub mod Claims
pub mod Turns
pub mod Batches
pub mod SoFar
pub mod Following
