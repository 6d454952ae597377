pub mod NexusLaws
pub mod PlaceLemmas
