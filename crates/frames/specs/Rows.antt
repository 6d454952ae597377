-- Streams and the frames in them, byte by byte.
use Rattle.std.specs.Prelude.{ℕ, List, [], ◌∷◌, ◌++◌, replicate}
use Rattle.scsi_nexus.specs.declared.nexus.Nexus.{Nexus}
use Rattle.frames.specs.Frames.{FrameValue, Login, Command, Logout}

abbrev pub a : Nexus
a = record { sas = 0x500000000000000A; port = 1 }

-- LOGIN of the nexus 500000000000000a by port
abbrev pub login_by : (port : ℕ) → List ℕ
login_by port = 0 ∷ 0 ∷ 0 ∷ 0x0B ∷ 1 ∷ 0x50 ∷ 0 ∷ 0 ∷ 0 ∷ 0 ∷ 0 ∷ 0 ∷ 0x0A ∷ 0 ∷ port ∷ []

-- COMMAND to unit 0: TEST UNIT READY
abbrev pub test_unit_ready : List ℕ
test_unit_ready = 0 ∷ 0 ∷ 0 ∷ 9 ∷ 2 ∷ 0 ∷ 6 ∷ replicate 6 0

-- COMMAND to unit 1: a variable WRITE(6) of four bytes
abbrev pub write : List ℕ
write = 0 ∷ 0 ∷ 0 ∷ 0x0D ∷ 2 ∷ 1 ∷ 6 ∷ 0x0A ∷ 0 ∷ 0 ∷ 0 ∷ 4 ∷ 0 ∷ 1 ∷ 2 ∷ 3 ∷ 4 ∷ []

abbrev pub logout : List ℕ
logout = 0 ∷ 0 ∷ 0 ∷ 1 ∷ 4 ∷ []

-- a session whole, and one that ends within a length
abbrev pub one_session : List ℕ
one_session = login_by 1 ++ test_unit_ready ++ logout

abbrev pub one_session_frames : List FrameValue
one_session_frames = Login a ∷ Command 0 (replicate 6 0) [] ∷ Logout ∷ []

abbrev pub cut_session : List ℕ
cut_session = login_by 1 ++ 0 ∷ 0 ∷ 0 ∷ []

-- the reply to the first command behind a power on: CHECK CONDITION with POWER ON, RESET, OR BUS DEVICE RESET OCCURRED
abbrev pub first_contact : List ℕ
first_contact =
    0 ∷ 0 ∷ 0 ∷ 0x1D ∷ 0x82 ∷ 2 ∷ 0x12 ∷ 0x70 ∷ 0 ∷ 6 ∷ 0 ∷ 0 ∷ 0 ∷ 0 ∷ 0x0A ∷ 0 ∷ 0 ∷ 0 ∷ 0 ∷ 0x29 ∷ 0 ∷ 0 ∷ 0 ∷ 0 ∷ 0
    ∷ 0 ∷ 0 ∷ 0 ∷ 0 ∷ 0 ∷ 0 ∷ 0 ∷ 1 ∷ []

-- the reply to a READ of two bytes: GOOD, record 258, and the bytes
abbrev pub two_bytes_read : List ℕ
two_bytes_read = 0 ∷ 0 ∷ 0 ∷ 0x0D ∷ 0x82 ∷ 0 ∷ 0 ∷ 0 ∷ 0 ∷ 0 ∷ 0 ∷ 0 ∷ 0 ∷ 1 ∷ 2 ∷ 0x61 ∷ 0x62 ∷ []
