pub mod Numbering
pub mod Justice
pub mod Shrinking
pub mod Stopping
pub mod Items
pub mod Inverses
pub mod Obeying
pub mod Speaking
