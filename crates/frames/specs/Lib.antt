pub mod Limits
pub mod Frames
pub mod Replies
pub mod Sending
pub mod ParsedReplies
pub mod Views
pub mod Stream
pub mod Rows
