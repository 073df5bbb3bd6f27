pub mod Listed
pub mod Leaves
pub mod Steps
pub mod First
pub mod Whole
