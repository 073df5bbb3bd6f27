pub mod Deciding
pub mod Dividing
pub mod Law
pub mod Loops
pub mod Bounds
pub mod Lengths
