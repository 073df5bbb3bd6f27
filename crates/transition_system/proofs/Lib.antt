pub mod ReplacedSizes
pub mod Sizes
pub mod Enabling
