pub mod Lists
pub mod Status
pub mod Rows
