pub mod Making
pub mod Asked
pub mod Walk
pub mod Sound
