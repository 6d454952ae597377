pub mod PreventerLaws
pub mod Ways
pub mod Carried
pub mod Stands
