pub mod Fitting
pub mod Obeying
