pub mod Table
pub mod Nodes
pub mod Contents
pub mod Lists
pub mod Memory
pub mod Lent
