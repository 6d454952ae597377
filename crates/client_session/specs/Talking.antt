-- A host's session with a library of a profile: what is sent, what is read, and the lines of the replies.
use Rattle.std.specs.Prelude.{◌≡◌, ℕ, List, [], ◌∷◌, ◌++◌, map, length, Option, None, Ok}
use Rattle.std.specs.List.{flat_map}
use Rattle.std.specs.Io.KnownBytes.{Consumes, Appends}
use Rattle.scsi_cdb.specs.declared.profile.Profile.{Profile}
use Rattle.scsi_nexus.specs.declared.nexus.Nexus.{Nexus}
use Rattle.frames.specs.declared.reply_frame.LoginAnswer.TheVariants.{Accepted}
use Rattle.frames.specs.Frames.{FrameValue, Login, Command, Reset, Logout}
use Rattle.frames.specs.Replies.{ReplyFrameValue, LoginReply, CommandReply, ResetReply, LogoutReply}
use Rattle.frames.specs.ParsedReplies.{Complete, parsed_reply}
use Rattle.frames.specs.Sending.{frame_bytes}
use Rattle.output_lines.specs.declared.explained.Explanations.{Explanations}
use Rattle.output_lines.specs.Explained.{answer_text}
use Rattle.script_lines.specs.Requests.{ClientRequestValue}
use Rattle.script_lines.specs.Requests as host
use Rattle.script_lines.specs.Script.{requests_in}

-- the frame of a request
abbrev pub frame_of : ClientRequestValue → FrameValue
frame_of (host.Command lun cdb bytes) = Command lun cdb bytes
frame_of (host.Reset lun) = Reset lun

-- the frames of a session: LOGIN, those of the requests in their order, LOGOUT
abbrev pub frames_of : Nexus → List ClientRequestValue → List FrameValue
frames_of nexus requests = Login nexus ∷ map frame_of requests ++ Logout ∷ []

-- as they are sent
abbrev pub stream_of : List FrameValue → List ℕ
stream_of frames = flat_map frame_bytes frames

-- a reply is of the kind of the frame, and a LOGIN was accepted
abbrev pub IsReplyTo : FrameValue → ReplyFrameValue → Type 0
IsReplyTo (Login nexus) (LoginReply answer) = answer ≡ Accepted
IsReplyTo (Command lun cdb bytes) (CommandReply status sense number payload) = Unit {0}
IsReplyTo (Reset lun) (ResetReply status) = Unit {0}
IsReplyTo Logout LogoutReply = Unit {0}
IsReplyTo _ _ = ⊥

-- one reply to each frame, in their order
abbrev pub AreRepliesTo : List FrameValue → List ReplyFrameValue → Type 0
AreRepliesTo [] [] = Unit {0}
AreRepliesTo (frame ∷ frames) (reply ∷ replies) = IsReplyTo frame reply × AreRepliesTo frames replies
AreRepliesTo _ _ = ⊥

-- bytes begin with these replies, one behind another, and this is the rest
abbrev pub Tells : Profile → List ℕ → List ReplyFrameValue → (rest : List ℕ) → Type 0
Tells profile bytes [] rest = rest ≡ bytes
Tells profile bytes (reply ∷ replies) rest =
    (piece others : List ℕ) × (bytes ≡ piece ++ others) × (parsed_reply profile bytes ≡ Complete reply (length piece)) × Tells profile others replies rest

-- what is written of the reply to a frame, as a replay writes it; of those to LOGIN and LOGOUT nothing is
abbrev pub told_text : Profile → Explanations → FrameValue → ReplyFrameValue → List ℕ
told_text profile explanations (Command lun cdb bytes) (CommandReply status sense number payload) =
    answer_text explanations profile lun cdb status sense payload
told_text profile explanations (Reset lun) (ResetReply status) = answer_text explanations profile lun [] status None []
told_text profile explanations _ _ = []

-- and of the replies to frames, in their order
abbrev pub session_text : Profile → Explanations → List FrameValue → List ReplyFrameValue → List ℕ
session_text profile explanations (frame ∷ frames) (reply ∷ replies) =
    told_text profile explanations frame reply ++ session_text profile explanations frames replies
session_text profile explanations _ _ = []

-- what is left to read from the server, what was written to it, and what was shown of its replies
pub record Streams : Type 0 where
  pub left : Option (List ℕ)
  pub written : Option (List ℕ)
  pub shown : Option (List ℕ)

abbrev pub streams : (left written shown : Option (List ℕ)) → Streams
streams left written shown = record { left = left; written = written; shown = shown }

-- these frames were sent, a reply to each of them was read, in their order, and the lines of the replies were written, with their
-- words where they are wanted; the rest is what was read behind them
pub record Talks (profile : Profile) (explanations : Explanations) (frames : List FrameValue) (before after : Streams) (rest : List ℕ) : Type 0 where
  pub read : List ℕ
  pub replies : List ReplyFrameValue
  pub consumed : Consumes before.left after.left read
  pub told : Tells profile read replies rest
  pub answered : AreRepliesTo frames replies
  pub sent : Appends before.written after.written (stream_of frames)
  pub lines : Appends before.shown after.shown (session_text profile explanations frames replies)

-- a session whole
pub record Converses (profile : Profile) (explanations : Explanations) (nexus : Nexus) (text : List ℕ) (before after : Streams) : Type 0 where
  pub requests : List ClientRequestValue
  pub rest : List ℕ
  pub script : requests_in profile text ≡ Ok requests
  pub talked : Talks profile explanations (frames_of nexus requests) before after rest
