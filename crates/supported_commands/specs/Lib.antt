pub mod Options
pub mod Commands
pub mod Answers
pub mod TaskManagement
pub mod Laws
