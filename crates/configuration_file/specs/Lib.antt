pub mod Faults
pub mod Rows
pub mod Says
pub mod Values
