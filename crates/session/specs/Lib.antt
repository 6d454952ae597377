pub mod Splitting
pub mod Limits
pub mod Faults
pub mod Answering
pub mod Directories
pub mod Login
pub mod Serving
pub mod Leaving
