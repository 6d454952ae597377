pub mod Faults
pub mod Talking
pub mod Waiting
pub mod Rows
