pub mod Translated
pub mod Posed
pub mod Refused
