pub mod Lists
pub mod Finds
pub mod Contexts
pub mod Fresh
