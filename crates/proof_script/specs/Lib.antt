pub mod Faults
pub mod Listing
pub mod Steps
pub mod Rules
pub mod Script
pub mod Obeying
pub mod Speaking
