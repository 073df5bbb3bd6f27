pub mod Blocks
pub mod Stages
pub mod Ends
pub mod Statuses
pub mod Completeness
pub mod Meanings
