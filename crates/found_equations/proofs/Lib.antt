pub mod Integers
pub mod Entering
pub mod Equations
pub mod Saying
