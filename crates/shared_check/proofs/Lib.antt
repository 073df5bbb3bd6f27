pub mod Keeping
pub mod Deciding
pub mod Placing
pub mod Answering
pub mod Lending
