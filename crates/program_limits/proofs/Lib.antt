pub mod Walking
pub mod Besides
pub mod StatementsBeside
pub mod LevelsBeside
pub mod ProgramsBeside
pub mod Within
pub mod Whole
pub mod Settled
