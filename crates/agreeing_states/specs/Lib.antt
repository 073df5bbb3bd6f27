pub mod Agreeing
pub mod Kleene
