pub mod OneWay
pub mod Schedules
pub mod Endings
