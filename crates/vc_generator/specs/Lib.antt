pub mod Atoms
pub mod Building
pub mod Validity
pub mod Walks
pub mod Refusing
pub mod Plain
pub mod Asked
