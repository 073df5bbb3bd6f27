pub mod Products
pub mod Coefficients
pub mod WindowSums
pub mod PickSums
pub mod RowLines
pub mod Laws
