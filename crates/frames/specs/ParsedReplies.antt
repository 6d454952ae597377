-- What a stream of replies begins with, as a client reads it.
use Rattle.std.specs.Prelude.{ℕ, ◌+◌, ◌-◌, ◌^◌, ◌<◌, ◌==◌, nat_lt, nat_le, List, [], ◌∷◌, length, take, drop, Option, None, Some, Result, Ok, Err, if◌then◌else◌}
use Rattle.byteorder.specs.Endian.{big_number}
use Rattle.scsi_cdb.specs.declared.profile.Profile.{Profile}
use Rattle.scsi_sense.specs.declared.fault.SenseFault.{SenseFault}
use Rattle.scsi_sense.specs.declared.sense.Sense.{Sense}
use Rattle.scsi_sense.specs.declared.status.Status.{Status}
use Rattle.scsi_sense.specs.declared.status.Status.TheVariants.{Good, CheckCondition, Busy, ReservationConflict}
use Rattle.scsi_sense.specs.FixedSense.{decoded_sense, IsWritable}
use Rattle.frames.specs.declared.reply_frame.LoginAnswer.TheVariants.{Accepted, AlreadyConnected}
use Rattle.frames.specs.declared.reply_fault.ReplyFault.{ReplyFault}
use Rattle.frames.specs.declared.reply_fault.ReplyFault.TheVariants.{NoBody, TooLong, UnknownKind, BadLength, UnknownAnswer, UnknownStatus, BadSenseLength, BadSense}
use Rattle.frames.specs.Limits.{reply_limit}
use Rattle.frames.specs.Replies.{ReplyFrameValue, LoginReply, CommandReply, ResetReply, LogoutReply}

-- what a stream of replies begins with: less than a reply, a reply of so many bytes, or a fault
pub data ParsedReplyValue : Type 0 where
  Partial : ParsedReplyValue
  Complete : ReplyFrameValue → (count : ℕ) → ParsedReplyValue
  Invalid : ReplyFault → ParsedReplyValue

-- the status of a code (SAM-5, "Status codes")
abbrev pub coded_status : (code : ℕ) → Option Status
coded_status code =
    if code == 0x00 then Some Good
    else if code == 0x02 then Some CheckCondition
    else if code == 0x08 then Some Busy
    else if code == 0x18 then Some ReservationConflict
    else None

-- a LOGIN's: how it is answered
abbrev pub parsed_answer : (code : ℕ) → ParsedReplyValue
parsed_answer code =
    if code == 0 then Complete (LoginReply Accepted) 6
    else if code == 1 then Complete (LoginReply AlreadyConnected) 6
    else Invalid UnknownAnswer

abbrev pub parsed_login_reply : (fields : List ℕ) → ParsedReplyValue
parsed_login_reply [] = Partial
parsed_login_reply (code ∷ more) = parsed_answer code

-- a RESET's: its status
abbrev pub parsed_reset_status : Option Status → ParsedReplyValue
parsed_reset_status None = Invalid UnknownStatus
parsed_reset_status (Some status) = Complete (ResetReply status) 6

abbrev pub parsed_reset_reply : (fields : List ℕ) → ParsedReplyValue
parsed_reset_reply [] = Partial
parsed_reset_reply (code ∷ more) = parsed_reset_status (coded_status code)

-- a COMMAND's, from the number of its record on, so many bytes of its body; its data are what is left of them
abbrev pub parsed_numbered : Status → Option Sense → (before size : ℕ) → (left : List ℕ) → ParsedReplyValue
parsed_numbered status sense before size left =
    if nat_lt (length left) size then Partial
    else Complete (CommandReply status sense (big_number 8 left) (take (size - 8) (drop 8 left))) (before + size)

-- from its sense data on, which are 18 bytes in fixed format
abbrev pub parsed_with_sense : Status → (size : ℕ) → (left : List ℕ) → Result Sense SenseFault → ParsedReplyValue
parsed_with_sense status size left (Err fault) = Invalid BadSense
parsed_with_sense status size left (Ok sense) = parsed_numbered status (Some sense) 25 (size - 21) (drop 18 left)

abbrev pub parsed_sense : Status → (size : ℕ) → (left : List ℕ) → ParsedReplyValue
parsed_sense status size left =
    if nat_lt size 29 then Invalid BadLength
    else if nat_lt (length left) 18 then Partial
    else parsed_with_sense status size left (decoded_sense (take 18 left))

-- from the length of its sense data on, 0 or 18
abbrev pub parsed_counted : Status → (size : ℕ) → (fields : List ℕ) → ParsedReplyValue
parsed_counted status size [] = Partial
parsed_counted status size (count ∷ left) =
    if count == 0 then parsed_numbered status None 7 (size - 3) left
    else if count == 0x12 then parsed_sense status size left
    else Invalid BadSenseLength

-- from its status on
abbrev pub parsed_status : Option Status → (size : ℕ) → (fields : List ℕ) → ParsedReplyValue
parsed_status None size fields = Invalid UnknownStatus
parsed_status (Some status) size fields = parsed_counted status size fields

abbrev pub parsed_command_reply : (size : ℕ) → (fields : List ℕ) → ParsedReplyValue
parsed_command_reply size [] = Partial
parsed_command_reply size (code ∷ fields) = parsed_status (coded_status code) size fields

-- a body of so many bytes, as far as it is there: its kind tells how long it is
unfoldable pub parsed_reply_body : (size : ℕ) → (body : List ℕ) → ParsedReplyValue
parsed_reply_body size [] = Partial
parsed_reply_body size (kind ∷ fields) =
    if kind == 0x81 then if size == 2 then parsed_login_reply fields else Invalid BadLength
    else if kind == 0x82 then if nat_le 11 size then parsed_command_reply size fields else Invalid BadLength
    else if kind == 0x83 then if size == 2 then parsed_reset_reply fields else Invalid BadLength
    else if kind == 0x84 then if size == 1 then Complete LogoutReply 5 else Invalid BadLength
    else Invalid UnknownKind

-- of the whole, by its length
abbrev pub parsed_sized_reply : Profile → (size : ℕ) → (body : List ℕ) → ParsedReplyValue
parsed_sized_reply profile size body =
    if size == 0 then Invalid NoBody
    else if nat_lt (reply_limit profile) size then Invalid TooLong
    else parsed_reply_body size body

unfoldable pub parsed_reply : Profile → (bytes : List ℕ) → ParsedReplyValue
parsed_reply profile bytes =
    if nat_lt (length bytes) 4 then Partial else parsed_sized_reply profile (big_number 4 bytes) (drop 4 bytes)

-- sense data that the format can carry
abbrev pub IsCarried : Option Sense → Type 0
IsCarried None = Unit {0}
IsCarried (Some sense) = IsWritable sense

-- a reply that its bytes tell whole: a number of eight bytes, and sense data that the format can carry
abbrev pub IsTellable : ReplyFrameValue → Type 0
IsTellable (CommandReply status sense number payload) = (number < 2 ^ 64) × IsCarried sense
IsTellable reply = Unit {0}
