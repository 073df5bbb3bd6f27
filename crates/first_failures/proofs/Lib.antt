pub mod Finding
pub mod Passing
pub mod Explaining
pub mod Failing
