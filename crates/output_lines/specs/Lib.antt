pub mod Replies
pub mod Explained
pub mod AuditLines
pub mod RecordOutputs
pub mod LeftLines
pub mod UnwrittenLines
pub mod Rows
