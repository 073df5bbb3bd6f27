pub mod Alternatives
pub mod Walk
