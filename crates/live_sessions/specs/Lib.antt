pub mod NoRooms
