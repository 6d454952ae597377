pub mod PendingLemmas
pub mod SlotLemmas
pub mod SlotOf
pub mod Contact
pub mod WalkLemmas
