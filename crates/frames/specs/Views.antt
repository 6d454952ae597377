-- What the code finds, without where its bytes lie.
use Rattle.std.specs.Prelude.{ℕ, ◌<◌, ◌≤◌}
use Rattle.frames.specs.declared.frame.FrameRef.{FrameRef}
use Rattle.frames.specs.declared.frame.FrameRef.TheVariants as frame
use Rattle.frames.specs.declared.frame.ParsedFrame.TheVariants as found
use Rattle.frames.specs.declared.frame.ParsedFrame as declared
use Rattle.frames.specs.declared.reply_frame.ReplyFrame.{ReplyFrame}
use Rattle.frames.specs.declared.reply_frame.ReplyFrame.TheVariants as reply
use Rattle.frames.specs.declared.reply_frame.ParsedReply.TheVariants as reply_found
use Rattle.frames.specs.declared.reply_frame.ParsedReply as declared_reply
use Rattle.frames.specs.Replies.{ReplyFrameValue, LoginReply, CommandReply, ResetReply, LogoutReply}
use Rattle.frames.specs.ParsedReplies as replies
use Rattle.frames.specs.Frames.{FrameValue, Login, Command, Reset, Logout, ParsedFrameValue, Partial, Complete, Invalid}

abbrev pub frame_value : FrameRef → FrameValue
frame_value (frame.Login nexus) = Login nexus
frame_value (frame.Command lun cdb bytes) = Command lun cdb.now bytes.now
frame_value (frame.Reset lun) = Reset lun
frame_value frame.Logout = Logout

abbrev pub parsed_value : declared.ParsedFrame → ParsedFrameValue
parsed_value found.Partial = Partial
parsed_value (found.Complete frame count) = Complete (frame_value frame) count
parsed_value (found.Invalid fault) = Invalid fault

-- a frame is some of the bytes
abbrev pub IsWithin : ℕ → declared.ParsedFrame → Type 0
IsWithin len (found.Complete frame count) = (0 < count) × (count ≤ len)
IsWithin len _ = Unit {0}

abbrev pub reply_value : ReplyFrame → ReplyFrameValue
reply_value (reply.Login answer) = LoginReply answer
reply_value (reply.Command status sense number bytes) = CommandReply status sense number bytes.now
reply_value (reply.Reset status) = ResetReply status
reply_value reply.Logout = LogoutReply

abbrev pub parsed_reply_value : declared_reply.ParsedReply → replies.ParsedReplyValue
parsed_reply_value reply_found.Partial = replies.Partial
parsed_reply_value (reply_found.Complete reply count) = replies.Complete (reply_value reply) count
parsed_reply_value (reply_found.Invalid fault) = replies.Invalid fault

-- a reply is some of the bytes
abbrev pub IsReplyWithin : ℕ → declared_reply.ParsedReply → Type 0
IsReplyWithin len (reply_found.Complete reply count) = (0 < count) × (count ≤ len)
IsReplyWithin len _ = Unit {0}
