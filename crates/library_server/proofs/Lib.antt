pub mod Closed
pub mod HandingOut
pub mod PlaceLemmas
pub mod Seats
pub mod ServedSeats
pub mod Told
pub mod Asking
