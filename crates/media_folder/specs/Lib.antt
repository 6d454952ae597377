pub mod Names
pub mod Profiles
pub mod Sizes
pub mod Faults
pub mod Stores
pub mod Volumes
