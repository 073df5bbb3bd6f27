pub mod Faults
pub mod Items
pub mod Values
pub mod Settings
pub mod Moves
pub mod Schedules
pub mod Obeying
