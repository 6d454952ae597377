pub mod Aligned
pub mod ClassNames
pub mod EachClass
pub mod NameColumn
pub mod Pieces
