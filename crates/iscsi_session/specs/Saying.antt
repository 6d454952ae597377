-- What a session does with its PDUs. `notes s d t` says that a call with the answer d makes t of the service s.
use Rattle.std.specs.Prelude.{◌≡◌, ℕ, Bool, true, false, MatchBool, List, [], ◌∷◌, ◌++◌, Option, if◌then◌else◌}
use Rattle.scsi_nexus.specs.declared.nexus.Nexus.{Nexus}
use Rattle.logical_unit.specs.Answers.{DoneValue}
use Rattle.iscsi_pdu.specs.Pdus.{InitiatorPduValue, TargetPduValue}
use Rattle.iscsi_pdu.specs.declared.initiator_header.InitiatorHeader.{InitiatorHeader}
use Rattle.iscsi_pdu.specs.declared.initiator_header.InitiatorHeader.TheVariants as sent
use Rattle.iscsi_pdu.specs.declared.target_header.TargetHeader.{TargetHeader}
use Rattle.iscsi_pdu.specs.declared.target_header.TargetHeader.TheVariants as said
use Rattle.iscsi_pdu.specs.declared.serial_number.SerialNumber.{SerialNumber}
use Rattle.iscsi_answers.specs.Written.{bytes_of_all}
use Rattle.iscsi_tasks.specs.Aborts.{reset_by_another}
use Rattle.iscsi_tasks.specs.Commands.{is_taken, counted}
use Rattle.iscsi_tasks.specs.Runs.{Commanded, DataCame}
use Rattle.iscsi_tasks.specs.Values.{TasksValue}
use Rattle.tickets.specs.declared.ticket.ReplyTicket.{ReplyTicket}
use Rattle.tickets.specs.declared.ticket.Outcome.{Outcome}
use Rattle.iscsi_session.specs.Executing.{Acts, GoesOn}
use Rattle.iscsi_session.specs.Managing.{ManagesTasks}
use Rattle.iscsi_session.specs.Worlds.{World, world}

-- a number is used up, if it is the one that is expected
abbrev pub numbered : TasksValue → (immediate : Bool) → SerialNumber → TasksValue
numbered k immediate cmd_sn = if is_taken k immediate cmd_sn then counted k immediate else k

-- SCSI Command, Data-Out and task management are of tasks
abbrev pub is_of_tasks : InitiatorHeader → Bool
is_of_tasks (sent.ScsiCommand p) = true
is_of_tasks (sent.DataOut p) = true
is_of_tasks (sent.TaskManagementRequest p) = true
is_of_tasks (sent.NopOut p) = false
is_of_tasks (sent.TextRequest p) = false
is_of_tasks (sent.LogoutRequest p) = false
is_of_tasks (sent.LoginRequest p) = false
is_of_tasks (sent.SnackRequest p) = false
is_of_tasks (sent.Unknown p) = false

-- where they aren't taken as tasks, PDUs that have a number use it up
abbrev pub behind_other : TasksValue → InitiatorHeader → TasksValue
behind_other k (sent.NopOut p) = numbered k p.immediate p.cmd_sn
behind_other k (sent.TextRequest p) = numbered k p.immediate p.cmd_sn
behind_other k (sent.LogoutRequest p) = numbered k p.immediate p.cmd_sn
behind_other k (sent.Unknown p) = numbered k p.immediate p.cmd_sn
behind_other k (sent.LoginRequest p) = k
behind_other k (sent.SnackRequest p) = k
behind_other k (sent.ScsiCommand p) = numbered k p.immediate p.cmd_sn
behind_other k (sent.DataOut p) = k
behind_other k (sent.TaskManagementRequest p) = numbered k p.immediate p.cmd_sn

-- what answers no command
abbrev pub IsOfNoCommand : TargetHeader → Type 0
IsOfNoCommand (said.NopIn p) = Unit {0}
IsOfNoCommand (said.TextResponse p) = Unit {0}
IsOfNoCommand (said.LogoutResponse p) = Unit {0}
IsOfNoCommand (said.Reject p) = Unit {0}
IsOfNoCommand _ = ⊥

-- one such PDU at most
abbrev pub IsPlain : List TargetPduValue → Type 0
IsPlain [] = Unit {0}
IsPlain (p ∷ []) = IsOfNoCommand p.header
IsPlain (p ∷ (q ∷ more)) = ⊥

-- and its bytes are added
abbrev pub AddsPlain : (out out' : List ℕ) → Type 0
AddsPlain out out' = (said : List TargetPduValue) × IsPlain said × (out' ≡ out ++ bytes_of_all said)

-- a PDU of a task happens to the tasks
abbrev pub TakesTask : {S : Type 0} → (S → DoneValue → S → Type 0) → (DoneValue → Option ReplyTicket → Type 0) → (count : S → ℕ) → Nexus → InitiatorHeader → (payload : List ℕ)
    → TasksValue → S → (said : List TargetPduValue) → TasksValue → S → Type 0
TakesTask notes waits count n (sent.ScsiCommand p) payload k s said k' t = Acts notes waits n k s (Commanded p payload) said k' t
TakesTask notes waits count n (sent.DataOut p) payload k s said k' t = Acts notes waits n k s (DataCame p payload) said k' t
TakesTask notes waits count n (sent.TaskManagementRequest p) payload k s said k' t = ManagesTasks notes count p k s said k' t
TakesTask notes waits count n _ payload k s said k' t = ⊥

-- and then those that wait go on: what a normal session does with it
pub record Works {S : Type 0} (notes : S → DoneValue → S → Type 0) (waits : DoneValue → Option ReplyTicket → Type 0) (count : S → ℕ) (n : Nexus) (h : InitiatorHeader) (payload : List ℕ)
    (k : TasksValue) (s : S) (said : List TargetPduValue) (k' : TasksValue) (t : S) : Type 0 where
  pub tasks : TasksValue
  pub service : S
  pub first : List TargetPduValue
  pub others : List TargetPduValue
  pub times : ℕ
  pub said_is : said ≡ first ++ others
  pub takes : TakesTask notes waits count n h payload k s first tasks service
  pub goes_on : GoesOn notes waits n times tasks service others k' t

-- without the commands that wait at these units and the replies that are held for them, which are known as reset, the first of them last
abbrev pub without_units : TasksValue → (units : List ℕ) → TasksValue
without_units k [] = k
without_units k (unit ∷ units) = reset_by_another (without_units k units) unit

-- of units that others have reset the commands that wait there go unexecuted, replies are dropped, and what waited behind them goes on
abbrev pub TakesResets : {S : Type 0} → (S → DoneValue → S → Type 0) → (DoneValue → Option ReplyTicket → Type 0) → Nexus → (units : List ℕ) → TasksValue → S
    → (said : List TargetPduValue) → TasksValue → S → Type 0
TakesResets notes waits n units k s said k' t = (times : ℕ) × GoesOn notes waits n times (without_units k units) s said k' t

-- the world of a normal session
abbrev pub normal_world : {S : Type 0} → (S → DoneValue → S → Type 0) → (DoneValue → Option ReplyTicket → Type 0) → (count : S → ℕ) → Nexus
    → (resets ends : ℕ → Type 0) → (settles : ReplyTicket → Outcome → Type 0) → World S
normal_world notes waits count n resets ends settles = world (Works notes waits count n) (TakesResets notes waits n) resets ends settles

-- one PDU; what comes of one of a task `works` says
abbrev pub Says : {S : Type 0}
    → (works : InitiatorHeader → (payload : List ℕ) → TasksValue → S → (said : List TargetPduValue) → TasksValue → S → Type 0)
    → InitiatorPduValue → TasksValue → S → (said : List TargetPduValue) → TasksValue → S → Type 0
Says works p k s said k' t =
    MatchBool (is_of_tasks p.header) (works p.header p.payload k s said k' t) ((k' ≡ behind_other k p.header) × (t ≡ s) × IsPlain said)
