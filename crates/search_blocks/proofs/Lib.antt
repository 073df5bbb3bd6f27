pub mod Fitting
pub mod Dividing
pub mod Finding
pub mod Holding
