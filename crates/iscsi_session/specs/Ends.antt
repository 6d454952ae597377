-- Why a connection in full feature ends, by what is left of its stream. No PDU that could be taken is left, unless a logout was answered, or the
-- connection broke: by what it began to write, for want of memory, or since the commands that wait hold too much data.
use Rattle.std.specs.Prelude.{◌≡◌, ◌≢◌, ℕ, Bool, true, false, List, [], ◌∷◌, Option, Result, Ok, Err}
use Rattle.std.specs.Io.KnownBytes.{IsAtEnd}
use Rattle.iscsi_keys.specs.Limits.{segment_limit}
use Rattle.iscsi_pdu.specs.Pdus.{InitiatorPduValue, parsed_initiator}
use Rattle.iscsi_pdu.specs.Segments.{Found, Partial, Complete, Invalid}
use Rattle.iscsi_pdu.specs.declared.initiator_header.InitiatorHeader.{InitiatorHeader}
use Rattle.iscsi_pdu.specs.declared.initiator_header.InitiatorHeader.TheVariants as sent
use Rattle.iscsi_pdu.specs.declared.logout.LogoutReason.{LogoutReason}
use Rattle.iscsi_pdu.specs.declared.logout.LogoutReason.TheVariants as reason
use Rattle.iscsi_tasks.specs.Values.{TasksValue}
use Rattle.iscsi_session.specs.Talking.{must_wait}
use Rattle.iscsi_session.specs.declared.fault.IscsiEnd.{IscsiEnd}
use Rattle.iscsi_session.specs.declared.fault.IscsiEnd.TheVariants.{Logout, Closed, Cut}
use Rattle.iscsi_session.specs.declared.fault.IscsiFault.{IscsiFault}
use Rattle.iscsi_session.specs.declared.fault.IscsiFault.TheVariants as fault
use Rattle.iscsi_session.specs.declared.talking.Pause.{Pause}
use Rattle.iscsi_session.specs.declared.talking.Pause.TheVariants as pause

-- a logout of the session, or of a connection
abbrev pub closes : LogoutReason → Bool
closes reason.CloseTheSession = true
closes reason.CloseTheConnection = true
closes reason.RemoveTheConnectionForRecovery = false
closes reason.Reserved = false

abbrev pub is_closing : InitiatorHeader → Bool
is_closing (sent.LogoutRequest p) = closes p.reason
is_closing (sent.ScsiCommand p) = false
is_closing (sent.DataOut p) = false
is_closing (sent.TaskManagementRequest p) = false
is_closing (sent.NopOut p) = false
is_closing (sent.TextRequest p) = false
is_closing (sent.LoginRequest p) = false
is_closing (sent.SnackRequest p) = false
is_closing (sent.Unknown p) = false

-- the last PDU that was taken is such a logout
abbrev pub ends_by_logout : List InitiatorPduValue → Bool
ends_by_logout [] = false
ends_by_logout (p ∷ []) = is_closing p.header
ends_by_logout (p ∷ (q ∷ ps)) = ends_by_logout (q ∷ ps)

-- no PDU that could be taken: less than a whole one, or a logout that waits for replies which are held
abbrev pub IsNone : TasksValue → Found InitiatorPduValue → Type 0
IsNone k (Partial wanted) = Unit {0}
IsNone k (Complete p size) = must_wait k p.header ≡ true
IsNone k (Invalid what) = ⊥

abbrev pub NeedsMore : TasksValue → (rest : List ℕ) → Type 0
NeedsMore k rest = IsNone k (parsed_initiator segment_limit rest)

-- the end of input, between PDUs: nothing is left, or such a logout
abbrev pub EndsBetween : TasksValue → (rest : List ℕ) → Found InitiatorPduValue → (left : Option (List ℕ)) → Type 0
EndsBetween k rest (Partial wanted) left = (rest ≡ []) × IsAtEnd left
EndsBetween k rest (Complete p size) left = must_wait k p.header ≡ true
EndsBetween k rest (Invalid what) left = ⊥

-- and within one
abbrev pub EndsWithin : (rest : List ℕ) → Found InitiatorPduValue → (left : Option (List ℕ)) → Type 0
EndsWithin rest (Partial wanted) left = (rest ≢ []) × IsAtEnd left
EndsWithin rest (Complete p size) left = ⊥
EndsWithin rest (Invalid what) left = ⊥

-- by what is left alone
abbrev pub end_of : (rest : List ℕ) → IscsiEnd
end_of [] = Closed
end_of (byte ∷ bytes) = Cut

abbrev pub EndIs : IscsiEnd → (rest : List ℕ) → Found InitiatorPduValue → Type 0
EndIs end rest (Partial wanted) = end ≡ end_of rest
EndIs end rest (Complete p size) = end ≡ Closed
EndIs end rest (Invalid what) = end ≡ end_of rest

-- what is left begins with a PDU that has this fault; where nothing came, or a read failed, no PDU that could be taken is left
abbrev pub FaultFits : IscsiFault → TasksValue → (rest : List ℕ) → Type 0
FaultFits (fault.BadPdu what) k rest = parsed_initiator segment_limit rest ≡ Invalid what
FaultFits fault.Silent k rest = NeedsMore k rest
FaultFits fault.Read k rest = NeedsMore k rest
FaultFits fault.TooMuchData k rest = Unit {0}
FaultFits fault.Write k rest = Unit {0}
FaultFits fault.NoMemory k rest = Unit {0}
FaultFits (fault.Refused status) k rest = ⊥

-- why a connection ended fits the PDUs that were taken, and what is left of its stream, and of the input
abbrev pub EndFits : Result IscsiEnd IscsiFault → (taken : List InitiatorPduValue) → TasksValue → (rest : List ℕ) → (left : Option (List ℕ)) → Type 0
EndFits (Ok Logout) taken k rest left = ends_by_logout taken ≡ true
EndFits (Ok Closed) taken k rest left = EndsBetween k rest (parsed_initiator segment_limit rest) left
EndFits (Ok Cut) taken k rest left = EndsWithin rest (parsed_initiator segment_limit rest) left
EndFits (Err what) taken k rest left = FaultFits what k rest

-- and so why answering paused, or stopped
abbrev pub PauseFits : Result Pause IscsiFault → (taken : List InitiatorPduValue) → TasksValue → (rest : List ℕ) → Type 0
PauseFits (Ok pause.NeedsInput) taken k rest = NeedsMore k rest
PauseFits (Ok pause.LoggedOut) taken k rest = ends_by_logout taken ≡ true
PauseFits (Ok pause.FlushDue) taken k rest = Unit {0}
PauseFits (Err what) taken k rest = FaultFits what k rest

-- whether the connection goes on
abbrev pub BranchFits : Result Bool IscsiFault → (taken : List InitiatorPduValue) → TasksValue → (rest : List ℕ) → Type 0
BranchFits (Ok true) taken k rest = NeedsMore k rest
BranchFits (Ok false) taken k rest = ends_by_logout taken ≡ true
BranchFits (Err what) taken k rest = FaultFits what k rest
