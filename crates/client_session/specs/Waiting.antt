-- One frame and its reply, and where a session breaks.
use Rattle.std.specs.Prelude.{◌≡◌, ℕ, List, ◌∷◌, ◌++◌, ◌⊎◌, length, Option, Ok}
use Rattle.std.specs.Io.KnownBytes.{Consumes, Appends, Keeps, IsAtEnd}
use Rattle.scsi_cdb.specs.declared.profile.Profile.{Profile}
use Rattle.scsi_nexus.specs.declared.nexus.Nexus.{Nexus}
use Rattle.frames.specs.declared.reply_frame.LoginAnswer.TheVariants.{AlreadyConnected}
use Rattle.frames.specs.Frames.{FrameValue, Login, Command, Reset, Logout}
use Rattle.read_buffer.specs.Reading.{Added}
use Rattle.frames.specs.Replies.{ReplyFrameValue, LoginReply, CommandReply, ResetReply, LogoutReply}
use Rattle.frames.specs.ParsedReplies.{ParsedReplyValue, Partial, Complete, Invalid, parsed_reply}
use Rattle.frames.specs.Sending.{frame_bytes}
use Rattle.output_lines.specs.declared.explained.Explanations.{Explanations}
use Rattle.script_lines.specs.Requests.{ClientRequestValue}
use Rattle.script_lines.specs.Script.{requests_in}
use Rattle.client_session.specs.declared.client_session_fault.ClientSessionFault.{ClientSessionFault}
use Rattle.client_session.specs.declared.client_session_fault.ClientSessionFault.TheVariants.{Line, Refused, BadReply, Read, Write, NoMemory}
use Rattle.client_session.specs.Talking.{IsReplyTo, told_text, frames_of, Streams, Talks}

-- a frame was sent, its reply was read, and what is written of the reply was
pub record Exchanges (profile : Profile) (explanations : Explanations) (frame : FrameValue) (pending pending' : List ℕ) (before after : Streams) : Type 0 where
  pub read : List ℕ
  pub reply : ReplyFrameValue
  pub piece : List ℕ
  pub consumed : Consumes before.left after.left read
  pub split : pending ++ read ≡ piece ++ pending'
  pub parsed : parsed_reply profile (pending ++ read) ≡ Complete reply (length piece)
  pub answered : IsReplyTo frame reply
  pub sent : Appends before.written after.written (frame_bytes frame)
  pub line : Appends before.shown after.shown (told_text profile explanations frame reply)

-- less than a reply came: the reader is at its end, or a read failed, or was one too many
abbrev pub EndsBeforeReply : Profile → ClientSessionFault → (pending : List ℕ) → (left : Option (List ℕ)) → Type 0
EndsBeforeReply profile BadReply pending left = (parsed_reply profile pending ≡ Partial) × IsAtEnd left
EndsBeforeReply profile Read pending left = parsed_reply profile pending ≡ Partial
EndsBeforeReply profile _ pending left = ⊥

-- a reply of another kind than the frame's
abbrev pub IsOfOtherKind : FrameValue → ReplyFrameValue → Type 0
IsOfOtherKind (Login nexus) (LoginReply answer) = ⊥
IsOfOtherKind (Command lun cdb bytes) (CommandReply status sense number payload) = ⊥
IsOfOtherKind (Reset lun) (ResetReply status) = ⊥
IsOfOtherKind Logout LogoutReply = ⊥
IsOfOtherKind _ _ = Unit {0}

-- no reply to the frame, but a fault, or a reply of another kind
abbrev pub IsNoReplyTo : FrameValue → ParsedReplyValue → Type 0
IsNoReplyTo frame Partial = ⊥
IsNoReplyTo frame (Complete reply count) = IsOfOtherKind frame reply
IsNoReplyTo frame (Invalid fault) = Unit {0}

-- a LOGIN whose nexus has a session already
abbrev pub IsRefusal : Nexus → FrameValue → ParsedReplyValue → Type 0
IsRefusal nexus frame parsed = (frame ≡ Login nexus) × (count : ℕ) × (parsed ≡ Complete (LoginReply AlreadyConnected) count)

-- why what a stream begins with was not taken as the reply to a frame
abbrev pub IsWhy : ClientSessionFault → FrameValue → ParsedReplyValue → Type 0
IsWhy (Refused nexus) frame parsed = IsRefusal nexus frame parsed
IsWhy BadReply frame parsed = IsNoReplyTo frame parsed
IsWhy NoMemory frame parsed = Unit {0}
IsWhy _ frame parsed = ⊥

-- what a stream begins with is a reply of so many bytes to a frame, and what is written of it was added
abbrev pub Answers : Profile → Explanations → FrameValue → ParsedReplyValue → (count : ℕ) → (line line' : List ℕ) → Type 0
Answers profile explanations frame parsed count line line' =
    (reply : ReplyFrameValue) × (parsed ≡ Complete reply count) × IsReplyTo frame reply × (line' ≡ line ++ told_text profile explanations frame reply)

-- the faults of sending
abbrev pub IsOfSending : ClientSessionFault → Type 0
IsOfSending Write = Unit {0}
IsOfSending NoMemory = Unit {0}
IsOfSending _ = ⊥

-- a frame was sent, and no reply to it came; no line was written
pub record Waits (frame : FrameValue) (pending pending' : List ℕ) (before after : Streams) : Type 0 where
  pub sent : Appends before.written after.written (frame_bytes frame)
  pub read : Added pending pending' before.left after.left
  pub lines : Keeps before.shown after.shown

-- a frame whose reply was refused, or no reply, or not read to its end; of how much was written where a write failed or
-- memory was refused nothing is said
abbrev pub Stops : Profile → ClientSessionFault → (frame : FrameValue) → (pending : List ℕ) → (before after : Streams) → Type 0
Stops profile (Line number what) frame pending before after = ⊥
Stops profile (Refused nexus) frame pending before after =
    (pending' : List ℕ) × Waits frame pending pending' before after × IsRefusal nexus frame (parsed_reply profile pending')
Stops profile BadReply frame pending before after =
    (pending' : List ℕ) × Waits frame pending pending' before after
    × (IsNoReplyTo frame (parsed_reply profile pending') ⊎ ((parsed_reply profile pending' ≡ Partial) × IsAtEnd after.left))
Stops profile Read frame pending before after =
    (pending' : List ℕ) × Waits frame pending pending' before after × (parsed_reply profile pending' ≡ Partial)
Stops profile Write frame pending before after = Unit {0}
Stops profile NoMemory frame pending before after = Unit {0}

-- the frames before one were answered, and that one was not
pub record Breaks
    (profile : Profile) (explanations : Explanations) (nexus : Nexus) (requests : List ClientRequestValue) (fault : ClientSessionFault) (before after : Streams)
    : Type 0 where
  pub done : List FrameValue
  pub next : FrameValue
  pub others : List FrameValue
  pub rest : List ℕ
  pub middle : Streams
  pub frames : frames_of nexus requests ≡ done ++ next ∷ others
  pub talked : Talks profile explanations done before middle rest
  pub stopped : Stops profile fault next rest middle after

-- a session of a script without a fault
pub record BreaksWithin
    (profile : Profile) (explanations : Explanations) (nexus : Nexus) (text : List ℕ) (fault : ClientSessionFault) (before after : Streams) : Type 0 where
  pub requests : List ClientRequestValue
  pub script : requests_in profile text ≡ Ok requests
  pub broke : Breaks profile explanations nexus requests fault before after

-- the faults of a session that was begun
abbrev pub IsOfSession : ClientSessionFault → Type 0
IsOfSession (Refused nexus) = Unit {0}
IsOfSession BadReply = Unit {0}
IsOfSession Read = Unit {0}
IsOfSession Write = Unit {0}
IsOfSession _ = ⊥
