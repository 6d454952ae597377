pub mod Digits
pub mod Pages
