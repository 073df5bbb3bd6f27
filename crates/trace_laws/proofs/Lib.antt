pub mod Numbers
pub mod Parting
pub mod Ways
pub mod OneRun
pub mod Played
pub mod Stopped
