pub mod UniqueCodes
