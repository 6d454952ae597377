pub mod Elements
pub mod Sizes
pub mod Tags
pub mod Tests
pub mod Kept
pub mod Starts
pub mod Names
pub mod Profiles
