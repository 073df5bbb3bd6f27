pub mod Modest
pub mod Stopping
pub mod Lasts
pub mod Within
pub mod PickReads
pub mod LeafReads
pub mod CutReads
pub mod TreeReads
pub mod Digits
pub mod Taken
pub mod Standing
pub mod WordRuns
pub mod NumberRuns
mod PickRuns
