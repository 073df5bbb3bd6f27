pub mod Faults
pub mod Transitions
pub mod Drawn
pub mod Drawing
pub mod Obeying
