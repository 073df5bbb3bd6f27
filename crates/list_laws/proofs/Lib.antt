pub mod Eachs
