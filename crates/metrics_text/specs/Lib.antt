pub mod Families
pub mod Rows
pub mod Server
pub mod Text
pub mod Units
pub mod Volumes
pub mod Words
