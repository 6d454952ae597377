pub mod Acts
pub mod Targets
pub mod State
pub mod Judge
pub mod Outcome
pub mod Table
