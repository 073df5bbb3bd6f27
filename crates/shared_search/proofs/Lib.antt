pub mod Entering
pub mod Listing
pub mod Knowing
pub mod Dividing
pub mod Moving
pub mod Deciding
pub mod Choosing
pub mod Certifying
