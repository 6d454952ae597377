pub mod Classes
pub mod Names
pub mod Chart
pub mod Cells
pub mod Rows
