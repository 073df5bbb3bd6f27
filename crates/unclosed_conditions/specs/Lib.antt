pub mod Unclosed
