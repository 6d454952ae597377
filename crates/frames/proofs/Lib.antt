pub mod Streams
pub mod Taking
pub mod WrittenFrames
pub mod WrittenReplies
pub mod ReplyPieces
