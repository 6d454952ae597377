-- The PDUs of a stream, one after another.
use Rattle.std.specs.Prelude.{◌≡◌, ◌⊎◌, ◌≤◌, ℕ, suc, Bool, true, false, not, List, [], ◌∷◌, ◌++◌, length, drop, All, Option}
use Rattle.std.specs.Io.KnownBytes.{Consumes, Appends}
use Rattle.iscsi_keys.specs.Limits.{segment_limit}
use Rattle.iscsi_pdu.specs.declared.initiator_header.InitiatorHeader.{InitiatorHeader}
use Rattle.iscsi_pdu.specs.declared.initiator_header.InitiatorHeader.TheVariants as sent
use Rattle.iscsi_pdu.specs.declared.serial_number.SerialNumber.{SerialNumber}
use Rattle.iscsi_pdu.specs.Pdus.{InitiatorPduValue, TargetPduValue, parsed_initiator}
use Rattle.iscsi_pdu.specs.Segments.{Complete}
use Rattle.iscsi_answers.specs.Single.{leave_request, ping}
use Rattle.iscsi_answers.specs.Written.{bytes_of_all}
use Rattle.iscsi_tasks.specs.Next.{next_of}
use Rattle.iscsi_tasks.specs.Values.{TasksValue}
use Rattle.iscsi_tasks.specs.declared.next_task.NextTask.TheVariants.{Idle}
use Rattle.iscsi_tasks.specs.Holding.{answers_due, holds_none}
use Rattle.iscsi_tasks.specs.Runs.{Settled, stepped}
use Rattle.tickets.specs.declared.ticket.ReplyTicket.{ReplyTicket}
use Rattle.tickets.specs.declared.ticket.Outcome.{Outcome}
use Rattle.iscsi_session.specs.Executing.{numbers}
use Rattle.iscsi_session.specs.Releasing.{SaysDue}
use Rattle.iscsi_session.specs.Saying.{Says}
use Rattle.iscsi_session.specs.Worlds.{World}

-- a stream begins with a PDU of so many bytes, whose data segment is no longer than the target takes
pub record BeginsWith (bytes : List ℕ) (p : InitiatorPduValue) (size : ℕ) : Type 0 where
  pub parsed : parsed_initiator segment_limit bytes ≡ Complete p size
  pub some : 48 ≤ size
  pub whole : size ≤ length bytes

-- with these, one behind another, and this is the rest
abbrev pub Takes : (bytes : List ℕ) → List InitiatorPduValue → (rest : List ℕ) → Type 0
Takes bytes [] rest = rest ≡ bytes
Takes bytes (p ∷ ps) rest = (size : ℕ) × BeginsWith bytes p size × Takes (drop size bytes) ps rest

-- what happens to a session: a PDU comes, or nothing for a while; or it is told of units that other sessions have reset, or that all
-- sessions are to end within so many seconds, or how keeping what a ticket is for ended
pub data Event : Type 0 where
  Came : InitiatorPduValue → Event
  Silence : Event
  Told : (units : List ℕ) → Event
  Ending : (seconds : ℕ) → Event
  Released : ReplyTicket → Outcome → Event

-- what it is told is so
abbrev pub IsSo : (resets ends : ℕ → Type 0) → (settles : ReplyTicket → Outcome → Type 0) → Event → Type 0
IsSo resets ends settles (Came p) = Unit {0}
IsSo resets ends settles Silence = Unit {0}
IsSo resets ends settles (Told units) = All resets units
IsSo resets ends settles (Ending seconds) = ends seconds
IsSo resets ends settles (Released ticket outcome) = settles ticket outcome

abbrev pub pdus_of : List Event → List InitiatorPduValue
pdus_of [] = []
pdus_of (Came p ∷ es) = p ∷ pdus_of es
pdus_of (Silence ∷ es) = pdus_of es
pdus_of (Told units ∷ es) = pdus_of es
pdus_of (Ending seconds ∷ es) = pdus_of es
pdus_of (Released ticket outcome ∷ es) = pdus_of es

-- how often a logout is asked for
abbrev pub leave_requests : List Event → ℕ
leave_requests [] = 0
leave_requests (Came p ∷ es) = leave_requests es
leave_requests (Silence ∷ es) = leave_requests es
leave_requests (Told units ∷ es) = leave_requests es
leave_requests (Released ticket outcome ∷ es) = leave_requests es
leave_requests (Ending seconds ∷ es) = suc (leave_requests es)

-- a ping
abbrev pub pinged : TasksValue → SerialNumber → List TargetPduValue
pinged k stat_sn = ping (numbers k stat_sn) 0 ∷ []

-- is added
abbrev pub IsPinged : TasksValue → (out out' : List ℕ) → Type 0
IsPinged k out out' = (stat_sn : SerialNumber) × (out' ≡ out ++ bytes_of_all (pinged k stat_sn))

-- a logout is asked for; that is added, where `ends` says so, and it may be, where it wasn't before
abbrev pub asked_to_leave : TasksValue → SerialNumber → (seconds : ℕ) → List TargetPduValue
asked_to_leave k stat_sn seconds = leave_request (numbers k stat_sn) seconds ∷ []

abbrev pub IsAskedToLeave : (ends : ℕ → Type 0) → TasksValue → (out out' : List ℕ) → Type 0
IsAskedToLeave ends k out out' =
    (stat_sn : SerialNumber) × (seconds : ℕ) × ends seconds × (out' ≡ out ++ bytes_of_all (asked_to_leave k stat_sn seconds))

abbrev pub MayAsk : (ends : ℕ → Type 0) → TasksValue → (asked asked' : Bool) → (out out' : List ℕ) → Type 0
MayAsk ends k asked asked' out out' =
    ((asked' ≡ asked) × (out' ≡ out)) ⊎ ((asked ≡ false) × (asked' ≡ true) × IsAskedToLeave ends k out out')

-- a logout is not taken as long as replies are held
abbrev pub must_wait : TasksValue → InitiatorHeader → Bool
must_wait k (sent.LogoutRequest p) = not (holds_none k)
must_wait k (sent.ScsiCommand p) = false
must_wait k (sent.DataOut p) = false
must_wait k (sent.TaskManagementRequest p) = false
must_wait k (sent.NopOut p) = false
must_wait k (sent.TextRequest p) = false
must_wait k (sent.LoginRequest p) = false
must_wait k (sent.SnackRequest p) = false
must_wait k (sent.Unknown p) = false

-- a PDU is taken where nothing is left to be done with those before it; behind a silence the target pings; of units that others have reset `w`
-- says what comes; where all sessions are to end a logout is asked for; and the replies that waited for a ticket answer their commands,
-- with the numbers of the tasks without them
abbrev pub Happens : {S : Type 0} → World S → Event → TasksValue → S → (said : List TargetPduValue) → TasksValue → S → Type 0
Happens w (Came p) k s said k' t = (next_of k ≡ Idle) × (must_wait k p.header ≡ false) × Says w.works p k s said k' t
Happens w Silence k s said k' t = (stat_sn : SerialNumber) × (said ≡ pinged k stat_sn) × (k' ≡ k) × (t ≡ s)
Happens w (Told units) k s said k' t = w.takes_resets units k s said k' t
Happens w (Ending seconds) k s said k' t =
    (stat_sn : SerialNumber) × (said ≡ asked_to_leave k stat_sn seconds) × (k' ≡ k) × (t ≡ s)
Happens w (Released ticket outcome) k s said k' t =
    (k' ≡ stepped k (Settled ticket outcome)) × SaysDue k' (answers_due ticket outcome k.replies) said × (t ≡ s)

-- one after another, and what is said to them
abbrev pub Talks : {S : Type 0} → World S → List Event → TasksValue → S → (said : List TargetPduValue) → TasksValue → S → Type 0
Talks w [] k s said k' t = (said ≡ []) × (k' ≡ k) × (t ≡ s)
Talks {S} w (e ∷ es) k s said k' t =
    (k1 : TasksValue) × (m : S) × (first others : List TargetPduValue) × (said ≡ first ++ others)
    × Happens w e k s first k1 m × Talks w es k1 m others k' t

-- what clauses say of a session at a moment: its tasks, what serves it, the bytes that have come of which no PDU was made yet, and those that wait
-- to be written
pub record Moment (S : Type 0) : Type 0 where
  pub tasks : TasksValue
  pub service : S
  pub pending : List ℕ
  pub out : List ℕ

-- these PDUs and what else happens are answered, a logout asked for so many times at most, and this is the rest of what was pending
pub record AnswersAll {S : Type 0} (w : World S) (most : ℕ) (k : TasksValue) (s : S) (pending : List ℕ) (said : List TargetPduValue)
    (k' : TasksValue) (t : S) (rest : List ℕ) : Type 0 where
  pub events : List Event
  pub so : All (IsSo w.resets w.ends w.settles) events
  pub asked : leave_requests events ≤ most
  pub talks : Talks w events k s said k' t
  pub takes : Takes pending (pdus_of events) rest

-- between two moments
abbrev pub Answers : {S : Type 0} → World S → (most : ℕ) → Moment S → (said : List TargetPduValue) → Moment S → (rest : List ℕ) → Type 0
Answers w most a said b rest = AnswersAll w most a.tasks a.service a.pending said b.tasks b.service rest

-- and of what is read behind it
abbrev pub Converses : {S : Type 0} → World S → (most : ℕ) → Moment S → (left left' : Option (List ℕ)) → (said : List TargetPduValue)
    → Moment S → (rest : List ℕ) → Type 0
Converses w most a left left' said b rest =
    (read : List ℕ) × (consumed : Consumes left left' read) × Answers w most (record a { pending = a.pending ++ read }) said b rest

-- what waited to be written and what was said are written, or wait
abbrev pub Writes : (written written' : Option (List ℕ)) → (out out' : List ℕ) → (said : List TargetPduValue) → Type 0
Writes written written' out out' said = (gone : List ℕ) × Appends written written' gone × (gone ++ out' ≡ out ++ bytes_of_all said)
