mod Walking
mod Ending
mod Workers
mod NamedForms
mod Stated
pub mod Asked
