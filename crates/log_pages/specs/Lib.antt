pub mod Counters
pub mod Parameters
pub mod Pages
pub mod LogSense
pub mod LogSelect
pub mod Rows
