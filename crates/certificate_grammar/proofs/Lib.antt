pub mod Numbers
pub mod Lists
pub mod Leaves
pub mod Written
pub mod Spelled
pub mod Bytes
pub mod Texts
