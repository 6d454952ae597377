pub mod Identity
pub mod Standard
pub mod Designators
pub mod VitalProductData
pub mod Inquiry
pub mod Rows
