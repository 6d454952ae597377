pub mod Limits
pub mod Ports
pub mod Text
pub mod Order
pub mod TransportId
pub mod Place
pub mod Rows
