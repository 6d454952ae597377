pub mod Reached
pub mod Struck
pub mod Span
pub mod Contents
pub mod Rows
pub mod StruckRows
