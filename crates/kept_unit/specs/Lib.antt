pub mod Keeping
pub mod Ranges
pub mod Listing
pub mod SeatNotes
pub mod Agreeing
pub mod RangeRows
pub mod AgreementRows
