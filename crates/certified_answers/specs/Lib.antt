pub mod Certified
pub mod Enough
