pub mod Shaped
pub mod Fractions
pub mod Holding
