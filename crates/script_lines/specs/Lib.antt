pub mod Limits
pub mod Text
pub mod Words
pub mod Lines
pub mod Requests
pub mod Script
pub mod Events
pub mod Rows
