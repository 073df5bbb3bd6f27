pub mod Named
pub mod Over
