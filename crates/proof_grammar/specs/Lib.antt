pub mod Phrases
pub mod Units
pub mod Drawings
pub mod Rules
pub mod Grammar
pub mod Theorems
pub mod Growing
