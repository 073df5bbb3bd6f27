pub mod Ending
pub mod Follow
pub mod Named
pub mod Parts
