pub mod Beginning
pub mod Chaining
pub mod Following
pub mod Waiting
