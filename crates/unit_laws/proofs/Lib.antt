pub mod CommandLaws
pub mod RowLaws
pub mod Check
pub mod CheckRows
pub mod Conflicts
pub mod TrailRows
