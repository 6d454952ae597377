pub mod StartLemmas
pub mod ProfileLemmas
pub mod LibraryLemmas
pub mod StockLemmas
