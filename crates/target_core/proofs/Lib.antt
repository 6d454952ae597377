pub mod Runs
pub mod Ordered
pub mod History
pub mod SamePlace
pub mod InOrder
pub mod Places
pub mod MovesInPlace
pub mod WhyBusy
