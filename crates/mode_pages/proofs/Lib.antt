pub mod Walk
pub mod Shown
pub mod Sent
pub mod Within
