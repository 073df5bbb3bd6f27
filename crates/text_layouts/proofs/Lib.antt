pub mod Fronts
pub mod Reading
pub mod Layouts
pub mod Apart
