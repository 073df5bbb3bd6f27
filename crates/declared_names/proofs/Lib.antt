pub mod Tokens
pub mod Raw
pub mod Spelled
pub mod Walked
pub mod Whole
