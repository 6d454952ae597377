pub mod GroupCodes
pub mod Profiles
