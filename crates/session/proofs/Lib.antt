pub mod Splitting
pub mod Called
pub mod Answered
pub mod Read
pub mod Conversed
pub mod Left
pub mod GivenBack
