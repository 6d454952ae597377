pub mod Address
pub mod Exchange
pub mod Limits
pub mod Runs
pub mod Pages
