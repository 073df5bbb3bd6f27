pub mod Looking
pub mod Needed
