pub mod Dealing
pub mod Halves
pub mod Numbers
pub mod Marking
pub mod Knowing
