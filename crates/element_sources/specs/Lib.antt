pub mod Sources
pub mod HostStatus
pub mod Reports
pub mod Journeys
pub mod Laws
pub mod Rows
