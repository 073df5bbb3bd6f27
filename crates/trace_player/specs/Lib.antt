pub mod Playing
pub mod Courses
pub mod Fronts
pub mod Judgements
pub mod Columns
pub mod Watching
