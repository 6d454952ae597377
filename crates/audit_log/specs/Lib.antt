pub mod Acts
pub mod Hexadecimal
pub mod Lines
pub mod Rows
pub mod Stages
pub mod TrailView
