pub mod Pictures
pub mod Enabling
pub mod Behind
pub mod Places
pub mod Moving
