pub mod Tapes
pub mod Maps
pub mod Showing
pub mod Performing
pub mod Volumes
