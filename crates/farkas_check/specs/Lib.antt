pub mod Problem
pub mod Valid
pub mod Meaning
pub mod Limits
pub mod PlainProblem
