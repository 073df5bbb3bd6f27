pub mod Rooms
pub mod Readers
pub mod Placing
pub mod Telling
pub mod Forms
