pub mod Making
pub mod Pushing
pub mod Branching
pub mod Picking
pub mod Reading
