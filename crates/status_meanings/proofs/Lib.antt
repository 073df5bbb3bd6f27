mod Stages
mod Blocks
mod Checks
mod Searches
mod Traces
pub mod Runs
pub mod Completeness
pub mod Meanings
