pub mod Answers
pub mod Judging
pub mod Schedules
pub mod Reading
