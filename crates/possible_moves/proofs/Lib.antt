pub mod Leading
pub mod Arrived
pub mod Reports
pub mod Listed
