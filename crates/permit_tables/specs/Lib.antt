pub mod AddressList
pub mod Pairs
pub mod Types
pub mod Permission
pub mod Words
pub mod Text
pub mod Rows
