pub mod ExpressionTree
pub mod Signs
pub mod Calm
pub mod Reading
pub mod Grammar
pub mod Theorems
