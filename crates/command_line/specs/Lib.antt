pub mod Serving
pub mod Tasks
