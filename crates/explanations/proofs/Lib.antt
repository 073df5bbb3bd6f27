pub mod Counted
pub mod Outlines
pub mod Standing
