pub mod Spans
pub mod Rises
pub mod Counting
pub mod Counts
pub mod Moves
pub mod HandingOver
