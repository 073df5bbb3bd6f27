pub mod Playable
pub mod Telling
