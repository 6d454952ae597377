pub mod Places
pub mod Parts
pub mod Order
pub mod Pieces
pub mod OwnData
pub mod Bounds
pub mod Window
pub mod HeldRuns
