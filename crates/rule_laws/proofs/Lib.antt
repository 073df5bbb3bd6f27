pub mod InvarianceSound
pub mod WaitingSound
pub mod Enabled
pub mod Among
pub mod NetSound
pub mod NestedSound
pub mod DrawnSound
pub mod WaitDrawn
