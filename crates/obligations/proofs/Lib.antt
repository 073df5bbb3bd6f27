pub mod Falling
pub mod Fitting
pub mod Asking
pub mod Citing
pub mod Refusals
pub mod Walking
pub mod Valid
