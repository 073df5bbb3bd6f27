pub mod Translating
pub mod Obliging
