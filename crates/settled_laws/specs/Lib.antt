pub mod Alike
pub mod Rows
