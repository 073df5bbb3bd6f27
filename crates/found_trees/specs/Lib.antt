pub mod Certified
