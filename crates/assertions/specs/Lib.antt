pub mod Faults
pub mod Reading
pub mod Named
pub mod Over
pub mod Labels
