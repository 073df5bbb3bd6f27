pub mod Rising
pub mod Storing
pub mod Passing
pub mod Moved
pub mod Enabled
