pub mod Addresses
pub mod Lying
pub mod Profiles
