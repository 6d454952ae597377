pub mod Faults
pub mod Run
pub mod Busy
pub mod Laws
