pub mod Given
pub mod Keys
pub mod Ranges
pub mod Rows
pub mod Rules
pub mod Switches
pub mod Winning
pub mod Words
