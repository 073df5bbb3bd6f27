pub mod Systems
pub mod Meaning
pub mod Bounds
pub mod Plain
