pub mod Nodes
pub mod Lines
pub mod Views
pub mod Grammar
pub mod Reading
pub mod Answers
