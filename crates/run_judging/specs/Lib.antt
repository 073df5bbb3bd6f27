pub mod Rows
pub mod Shown
pub mod Greatest
pub mod Paying
pub mod Judging
