pub mod Belows
