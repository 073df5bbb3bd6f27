pub mod Spelled
pub mod Numbered
pub mod Remembered
pub mod Answering
pub mod Proving
pub mod Knowing
pub mod Proper
