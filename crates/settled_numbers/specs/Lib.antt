pub mod Numbers
pub mod Placing
pub mod Settled
pub mod NumberRows
