pub mod Bits
pub mod FixedSense
pub mod Conditions
pub mod CarriedOut
pub mod Status
pub mod SenseKeys
pub mod Text
