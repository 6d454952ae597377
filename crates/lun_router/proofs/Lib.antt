pub mod PartsRising
pub mod Rising
pub mod SameNotes
pub mod Settled
pub mod Places
pub mod HandingOver
pub mod Accounting
