pub mod Blocks
pub mod Checked
pub mod Laws
pub mod Plain
pub mod Tests
