pub mod Pending
pub mod Queues
pub mod Rows
