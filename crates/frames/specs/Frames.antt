-- Frames: four bytes of length, then a body whose first byte is its kind (profile).
use Rattle.std.specs.Prelude.{ℕ, ◌+◌, ◌-◌, ◌==◌, ◌&&◌, ◌||◌, nat_lt, nat_le, not, Bool, List, [], ◌∷◌, length, take, drop, slice_index, if◌then◌else◌}
use Rattle.byteorder.specs.Endian.{big_number}
use Rattle.scsi_cdb.specs.declared.profile.Profile.{Profile}
use Rattle.scsi_nexus.specs.declared.nexus.Nexus.{Nexus}
use Rattle.frames.specs.Limits.{frame_limit}
use Rattle.frames.specs.declared.fault.FrameFault.{FrameFault}
use Rattle.frames.specs.declared.fault.FrameFault.TheVariants.{BadFrame, TooLong}

-- what a client sends
pub data FrameValue : Type 0 where
  Login : Nexus → FrameValue
  Command : (lun : ℕ) → (cdb bytes : List ℕ) → FrameValue
  Reset : (lun : ℕ) → FrameValue
  Logout : FrameValue

-- what a stream begins with: less than a frame, a frame of so many bytes, or a fault
pub data ParsedFrameValue : Type 0 where
  Partial : ParsedFrameValue
  Complete : FrameValue → (count : ℕ) → ParsedFrameValue
  Invalid : FrameFault → ParsedFrameValue

-- LOGIN: the initiator's SAS address, eight bytes, and the target port, two, which is 1 to 4
abbrev pub named_login : Nexus → ParsedFrameValue
named_login nexus = if nat_le 1 nexus.port && nat_le nexus.port 4 then Complete (Login nexus) 15 else Invalid BadFrame

abbrev pub parsed_login : (fields : List ℕ) → ParsedFrameValue
parsed_login fields =
    if nat_lt (length fields) 10 then Partial
    else named_login (record { sas = big_number 8 fields; port = big_number 2 (drop 8 fields) })

-- COMMAND: the logical unit number, the length of the CDB, the CDB, and data up to the end of the body
abbrev pub whole_command : (size count : ℕ) → (fields : List ℕ) → FrameValue
whole_command size count fields =
    Command (slice_index fields 0) (take count (drop 2 fields)) (take (size - 3 - count) (drop (2 + count) fields))

abbrev pub sized_command : (size count : ℕ) → (fields : List ℕ) → ParsedFrameValue
sized_command size count fields =
    if (count == 0) || nat_lt 16 count || nat_lt size (3 + count) then Invalid BadFrame
    else if nat_lt (length fields) (size - 1) then Partial
    else Complete (whole_command size count fields) (4 + size)

abbrev pub parsed_command : (size : ℕ) → (fields : List ℕ) → ParsedFrameValue
parsed_command size fields =
    if nat_lt (length fields) 2 then Partial else sized_command size (slice_index fields 1) fields

-- RESET: the logical unit number
abbrev pub parsed_reset : (fields : List ℕ) → ParsedFrameValue
parsed_reset [] = Partial
parsed_reset (lun ∷ more) = Complete (Reset lun) 6

-- a body of so many bytes, as far as it is there: its kind tells how long it is; a LOGIN comes first, and once
unfoldable pub parsed_body : (logged : Bool) → (size : ℕ) → (body : List ℕ) → ParsedFrameValue
parsed_body logged size [] = Partial
parsed_body logged size (kind ∷ fields) =
    if (kind == 0x01) && not logged && (size == 11) then parsed_login fields
    else if (kind == 0x02) && logged && nat_le 4 size then parsed_command size fields
    else if (kind == 0x03) && logged && (size == 2) then parsed_reset fields
    else if (kind == 0x04) && logged && (size == 1) then Complete Logout 5
    else Invalid BadFrame

abbrev pub parsed_sized : Profile → (logged : Bool) → (size : ℕ) → (body : List ℕ) → ParsedFrameValue
parsed_sized profile logged size body =
    if size == 0 then Invalid BadFrame
    else if nat_lt (frame_limit profile) size then Invalid TooLong
    else parsed_body logged size body

unfoldable pub parsed_frame : Profile → (logged : Bool) → (bytes : List ℕ) → ParsedFrameValue
parsed_frame profile logged bytes =
    if nat_lt (length bytes) 4 then Partial else parsed_sized profile logged (big_number 4 bytes) (drop 4 bytes)
