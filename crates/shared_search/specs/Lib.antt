pub mod Contexts
pub mod Lists
pub mod Found
pub mod Books
pub mod Moves
