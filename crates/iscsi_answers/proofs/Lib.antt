pub mod Answered
pub mod Segments
pub mod Carried
pub mod Repeated
