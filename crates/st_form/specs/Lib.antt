pub mod Formula
pub mod Forms
pub mod Exchange
pub mod Condition
pub mod Plain
pub mod Simple
pub mod Shared
