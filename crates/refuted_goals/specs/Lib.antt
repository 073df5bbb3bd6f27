pub mod Refuted
pub mod Denied
