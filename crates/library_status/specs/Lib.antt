pub mod Words
pub mod Rows
pub mod Sessions
pub mod Json
pub mod Picture
pub mod Text
