pub mod Texts
pub mod Replay
pub mod Rows
