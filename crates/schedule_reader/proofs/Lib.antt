pub mod Going
pub mod Openings
pub mod Answering
pub mod Obeying
