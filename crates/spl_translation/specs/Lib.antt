pub mod Translation
pub mod Correspondence
pub mod Making
pub mod Composing
pub mod Walk
