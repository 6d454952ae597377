pub mod Places
pub mod Pages
pub mod Sizes
pub mod Moves
pub mod Forms
