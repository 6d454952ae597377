-- Reply frames: four bytes of length, then a body whose first byte is its kind (profile).
use Rattle.std.specs.Prelude.{ℕ, ◌≤◌, List, [], ◌∷◌, ◌++◌, length, Option, None, Some}
use Rattle.byteorder.specs.Endian.{big_bytes}
use Rattle.scsi_cdb.specs.declared.profile.Profile.{Profile}
use Rattle.scsi_sense.specs.declared.sense.Sense.{Sense}
use Rattle.scsi_sense.specs.declared.status.Status.{Status}
use Rattle.scsi_sense.specs.Status.{status_code}
use Rattle.scsi_sense.specs.FixedSense.{fixed_sense}
use Rattle.frames.specs.Limits.{reply_data_limit}
use Rattle.frames.specs.declared.reply_frame.LoginAnswer.{LoginAnswer}
use Rattle.frames.specs.declared.reply_frame.LoginAnswer.TheVariants.{Accepted, AlreadyConnected}

-- what a session is answered
pub data ReplyFrameValue : Type 0 where
  LoginReply : LoginAnswer → ReplyFrameValue
  CommandReply : Status → Option Sense → (number : ℕ) → (payload : List ℕ) → ReplyFrameValue
  ResetReply : Status → ReplyFrameValue
  LogoutReply : ReplyFrameValue

abbrev pub login_code : LoginAnswer → ℕ
login_code Accepted = 0
login_code AlreadyConnected = 1

abbrev pub sense_bytes : Option Sense → List ℕ
sense_bytes None = []
sense_bytes (Some sense) = fixed_sense sense

-- a COMMAND's: its status, the length of the sense data and the sense data, the number of its record, and its data
abbrev pub reply_body : ReplyFrameValue → List ℕ
reply_body (LoginReply answer) = 0x81 ∷ login_code answer ∷ []
reply_body (CommandReply status sense number payload) =
    (0x82 ∷ status_code status ∷ length (sense_bytes sense) ∷ []) ++ sense_bytes sense ++ big_bytes 8 number ++ payload
reply_body (ResetReply status) = 0x83 ∷ status_code status ∷ []
reply_body LogoutReply = 0x84 ∷ []

abbrev pub reply_bytes : ReplyFrameValue → List ℕ
reply_bytes reply = big_bytes 4 (length (reply_body reply)) ++ reply_body reply

-- a command's data are those of a block at most
abbrev pub IsShort : Profile → ReplyFrameValue → Type 0
IsShort profile (CommandReply status sense number payload) = length payload ≤ reply_data_limit profile
IsShort profile reply = Unit {0}
