pub mod Outcomes
pub mod Discharging
pub mod Accepting
