pub mod Ends
pub mod Exact
pub mod Limited
pub mod LimitedBlocks
pub mod Pending
pub mod Tests
