pub mod Wishes
pub mod Looking
pub mod LookRows
pub mod Items
pub mod Backlogs
pub mod Seen
pub mod Saving
pub mod SavingRows
