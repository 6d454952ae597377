pub mod Paths
pub mod Keeping
