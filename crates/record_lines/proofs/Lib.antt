pub mod Counting
pub mod Following
pub mod Sums
