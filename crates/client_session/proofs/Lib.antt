pub mod Talked
pub mod Sessions
pub mod RowLemmas
