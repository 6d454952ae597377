pub mod ClosedLibrary
pub mod ClosingFaults
pub mod LibraryService
