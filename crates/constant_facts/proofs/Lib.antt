pub mod Loops
pub mod Settling
pub mod Sound
pub mod Greater
