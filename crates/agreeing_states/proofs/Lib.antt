pub mod Logic
pub mod Agreed
