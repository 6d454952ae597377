pub mod Items
pub mod Reached
pub mod Written
pub mod Shown
pub mod Offered
pub mod Turned
pub mod Exchanged
