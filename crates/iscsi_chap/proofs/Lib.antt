pub mod Lines
pub mod Users
pub mod Once
pub mod Apart
