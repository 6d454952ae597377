-- The faults of sessions: which of several is told, and by which words (profile).
use Rattle.std.specs.Prelude.{ℕ, nat_lt, Bool, if◌then◌else◌, List, [], ◌∷◌, ◌++◌, codes, Option, Some, None}
use Rattle.std.specs.Fmt.{decimal}
use Rattle.scsi_nexus.specs.declared.nexus.Nexus.{Nexus}
use Rattle.scsi_nexus.specs.Text.{nexus_text}
use Rattle.session.specs.declared.fault.SessionFault.{SessionFault}
use Rattle.session.specs.declared.fault.SessionFault.TheVariants as session
use Rattle.iscsi_session.specs.declared.fault.IscsiFault.TheVariants as iscsi
use Rattle.server.specs.declared.faulty_session.Cause.{Cause}
use Rattle.server.specs.declared.faulty_session.Cause.TheVariants.{Fault, Iscsi, Silence}
use Rattle.server.specs.declared.faulty_session.FaultySession.{FaultySession}
use Rattle.server.specs.IscsiFaults.{iscsi_words}

-- a read that failed since nothing came in time
abbrev pub silent : Cause → Cause
silent (Fault session.Read) = Silence
silent (Iscsi iscsi.Read) = Silence
silent cause = cause

-- one session was accepted before another
abbrev pub is_accepted_before : FaultySession → FaultySession → Bool
is_accepted_before a b = nat_lt a.number b.number

-- the one of two that comes first in an order, where either may have happened
abbrev pub first_by : {A : Type 0} → (is_before : A → A → Bool) → Option A → Option A → Option A
first_by is_before None b = b
first_by is_before (Some a) None = Some a
first_by is_before (Some a) (Some b) = if is_before b a then Some b else Some a

-- the fault of the session that was accepted first, of two and of those that workers have
abbrev pub first_accepted : Option FaultySession → Option FaultySession → Option FaultySession
first_accepted = first_by is_accepted_before

abbrev pub first_among : Option FaultySession → List (Option FaultySession) → Option FaultySession
first_among told [] = told
first_among told (fault ∷ faults) = first_among (first_accepted told fault) faults

abbrev pub session_words : SessionFault → List ℕ
session_words session.BadFrame = codes "bad frame"
session_words session.TooLong = codes "frame too long"
session_words session.AlreadyConnected = codes "already connected"
session_words session.Read = codes "a read failed"
session_words session.Write = codes "a write failed"
session_words session.NoMemory = codes "want of memory"

abbrev pub cause_words : Cause → List ℕ
cause_words (Fault fault) = session_words fault
cause_words (Iscsi fault) = iscsi_words fault
cause_words Silence = codes "nothing came in time"

abbrev pub whose : Option Nexus → List ℕ
whose None = codes " before its LOGIN: "
whose (Some n) = codes " of " ++ nexus_text n ++ codes ": "

abbrev pub faulty_session_text : FaultySession → List ℕ
faulty_session_text s = decimal s.number ++ (whose s.nexus ++ cause_words s.cause)
