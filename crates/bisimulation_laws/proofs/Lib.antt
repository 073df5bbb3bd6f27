pub mod Bisimilar
