pub mod Numerals
pub mod Elements
pub mod NodeLaws
pub mod LineLaws
