pub mod Feeds
pub mod Reaching
