pub mod Arenas
pub mod Placings
pub mod Refusals
