-- Frames as a client writes them: four bytes of length, then a body whose first byte is its kind (profile).
use Rattle.std.specs.Prelude.{ℕ, ◌+◌, ◌^◌, ◌≤◌, ◌<◌, Bool, true, false, List, [], ◌∷◌, ◌++◌, length}
use Rattle.byteorder.specs.Endian.{big_bytes}
use Rattle.scsi_cdb.specs.declared.profile.Profile.{Profile}
use Rattle.frames.specs.Limits.{frame_limit}
use Rattle.frames.specs.Frames.{FrameValue, Login, Command, Reset, Logout}

-- a LOGIN's: the initiator's SAS address and the target port; a COMMAND's: the logical unit number, the length of the
-- CDB, the CDB, and its data; a RESET's: the logical unit number
abbrev pub frame_body : FrameValue → List ℕ
frame_body (Login nexus) = 0x01 ∷ (big_bytes 8 nexus.sas ++ big_bytes 2 nexus.port)
frame_body (Command lun cdb bytes) = 0x02 ∷ lun ∷ length cdb ∷ (cdb ++ bytes)
frame_body (Reset lun) = 0x03 ∷ lun ∷ []
frame_body Logout = 0x04 ∷ []

abbrev pub frame_bytes : FrameValue → List ℕ
frame_bytes s = big_bytes 4 (length (frame_body s)) ++ frame_body s

-- what a client may send: a target port of 1 to 4; a CDB of 1 to 16 bytes, with data that the longest body has room for
abbrev pub IsSendable : Profile → FrameValue → Type 0
IsSendable profile (Login nexus) = (1 ≤ nexus.port) × (nexus.port ≤ 4)
IsSendable profile (Command lun cdb bytes) = (1 ≤ length cdb) × (length cdb ≤ 16) × (3 + length cdb + length bytes ≤ frame_limit profile)
IsSendable profile s = Unit {0}

-- a SAS address has eight bytes
abbrev pub HasWidth : FrameValue → Type 0
HasWidth (Login nexus) = nexus.sas < 2 ^ 64
HasWidth s = Unit {0}

-- a LOGIN comes first, and all else behind it
abbrev pub is_behind_login : FrameValue → Bool
is_behind_login (Login nexus) = false
is_behind_login s = true
