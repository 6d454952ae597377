pub mod Input
pub mod InputFaults
pub mod InputRows
pub mod Faults
pub mod ReplayFaults
