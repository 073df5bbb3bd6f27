pub mod Plain
pub mod Divisions
pub mod Ready
pub mod Verdicts
pub mod Loops
pub mod Touches
