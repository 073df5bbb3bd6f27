pub mod Failing
pub mod Laws
