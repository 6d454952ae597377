pub mod Numbers
pub mod Sides
