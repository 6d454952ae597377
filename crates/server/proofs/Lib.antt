pub mod FirstTold
pub mod Sessions
pub mod SessionRows
