pub mod Validity
pub mod Laws
