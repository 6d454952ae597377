pub mod Ranges
pub mod Items
