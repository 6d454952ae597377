pub mod Descriptors
