-- SCSI Commands, as they come (RFC 7143, "Command Numbering and Acknowledging", "SCSI Command").
use Rattle.std.specs.Prelude.{ℕ, ◌+◌, ◌-◌, ◌≤◌, ◌==◌, nat_lt, nat_le, Bool, true, false, not, ◌&&◌, ◌||◌, List, [], ◌∷◌, ◌++◌, length, max, drop}
use Rattle.std.specs.Prelude.{position, is_some, Option, Some, None, Result, Ok, Err, if◌then◌else◌}
use Rattle.iscsi_pdu.specs.SerialNumbers.{distance, next}
use Rattle.iscsi_pdu.specs.declared.serial_number.SerialNumber.{SerialNumber}
use Rattle.iscsi_pdu.specs.declared.scsi_command.ScsiCommand.{ScsiCommand}
use Rattle.iscsi_pdu.specs.declared.reject_reason.RejectReason.TheVariants.{TaskInProgress, TooManyImmediateCommands}
use Rattle.iscsi_keys.specs.declared.parameters.SessionParameters.{SessionParameters}
use Rattle.iscsi_tasks.specs.declared.awaiting.Awaiting.{Awaiting}
use Rattle.iscsi_tasks.specs.declared.awaiting.Awaiting.TheVariants.{Turn, Data, Failing, Failed}
use Rattle.iscsi_tasks.specs.declared.taken.TakenCommand.{TakenCommand}
use Rattle.iscsi_tasks.specs.declared.taken.TakenCommand.TheVariants.{PassedOver, Rejected, Execute, Waits}
use Rattle.iscsi_tasks.specs.declared.fault.TasksFault.{TasksFault}
use Rattle.iscsi_tasks.specs.declared.fault.TasksFault.TheVariants.{TooMuchData}
use Rattle.iscsi_tasks.specs.Limits.{most_under_way, most_waiting, most_held}
use Rattle.iscsi_tasks.specs.Values.{TaskValue, TasksValue, held}
use Rattle.iscsi_tasks.specs.Writes.{wanted, first_awaited}
use Rattle.iscsi_tasks.specs.Windows.{pending, under_way}
use Rattle.iscsi_tasks.specs.Holding.{is_held}

-- the window is open: MaxCmdSN isn't before ExpCmdSN
abbrev pub is_open : TasksValue → Bool
is_open s = nat_lt (pending s) most_under_way

-- a PDU with a CmdSN is taken if it is for immediate delivery, or the one that is expected while the window is open
abbrev pub is_taken : TasksValue → (immediate : Bool) → (cmd_sn : SerialNumber) → Bool
is_taken s immediate cmd_sn = immediate || ((cmd_sn.number == s.exp_cmd_sn.number) && is_open s)

-- immediate delivery uses no number up
abbrev pub counted : TasksValue → (immediate : Bool) → TasksValue
counted s immediate = if immediate then s else record s { exp_cmd_sn = next s.exp_cmd_sn; ahead = s.ahead - 1 }

abbrev pub has_tag : (tag : ℕ) → TaskValue → Bool
has_tag tag t = t.command.initiator_task_tag == tag

abbrev pub is_waiting : TasksValue → (tag : ℕ) → Bool
is_waiting s tag = is_some (position (has_tag tag) s.waiting)

-- the tag is that of a command that waits, or whose reply is held
abbrev pub is_in_use : TasksValue → (tag : ℕ) → Bool
is_in_use s tag = is_waiting s tag || is_held s tag

-- as many commands for immediate delivery are under way as may
abbrev pub is_crowded : TasksValue → (immediate : Bool) → Bool
is_crowded s immediate = immediate && nat_le most_under_way (under_way true s)

-- a task that has failed keeps no data
abbrev pub unless_failed : Awaiting → (payload : List ℕ) → List ℕ
unless_failed Turn payload = payload
unless_failed (Data s) payload = payload
unless_failed (Failing fault) payload = []
unless_failed (Failed fault) payload = []

-- without W whatever comes with a command isn't data
abbrev pub immediate_data : ScsiCommand → Awaiting → (payload : List ℕ) → List ℕ
immediate_data c awaiting payload = if c.writes then unless_failed awaiting payload else []

abbrev pub task_awaiting : ScsiCommand → Awaiting → (payload : List ℕ) → TaskValue
task_awaiting c awaiting payload =
    record { command = c; bytes = immediate_data c awaiting payload; awaiting = awaiting; r2t_sn = record { number = 0 } }

abbrev pub begun_task : SessionParameters → ScsiCommand → (payload : List ℕ) → TaskValue
begun_task p c payload = task_awaiting c (first_awaited p c (length payload)) payload

-- all data are there that a unit takes
abbrev pub is_whole_at : (wanted count : ℕ) → Awaiting → Bool
is_whole_at wanted count Turn = nat_le wanted count
is_whole_at wanted count _ = false

-- nothing waits before it, and all of its data came with it
abbrev pub is_at_once : TasksValue → ScsiCommand → (count : ℕ) → Bool
is_at_once s c count =
    (length s.waiting == 0) && is_whole_at (wanted s.limit c) count (first_awaited s.parameters c count)

pub record IsBounded (waiting : List TaskValue) : Type 0 where
  pub few : length waiting ≤ most_waiting
  pub little : held waiting ≤ most_held

-- whether one more may wait with so many bytes of data
abbrev pub room_for : List TaskValue → (count : ℕ) → Result (Unit {0}) TasksFault
room_for waiting count =
    if nat_le (held waiting + count) most_held then Ok tt else Err TooMuchData

abbrev pub waits_if : Result (Unit {0}) TasksFault → Result TakenCommand TasksFault
waits_if (Ok room) = Ok Waits
waits_if (Err fault) = Err fault

abbrev pub command_answer : TasksValue → ScsiCommand → (payload : List ℕ) → Result TakenCommand TasksFault
command_answer s c payload =
    if not (is_taken s c.immediate c.cmd_sn) then Ok PassedOver
    else if is_in_use s c.initiator_task_tag then Ok (Rejected TaskInProgress)
    else if is_crowded s c.immediate then Ok (Rejected TooManyImmediateCommands)
    else if is_at_once s c (length payload) then Ok (Execute (wanted s.limit c))
    else waits_if (room_for s.waiting (length (begun_task s.parameters c payload).bytes))

-- the last 64 tags that were passed over are known
abbrev pub remembered : (tags : List ℕ) → (tag : ℕ) → List ℕ
remembered tags tag = if nat_lt (length tags) 64 then tags ++ tag ∷ [] else drop 1 tags ++ tag ∷ []

-- how many numbers, from the one that is expected on, lead to one in the window: those before it haven't come. None lead to one beyond
abbrev pub numbers_to : TasksValue → (cmd_sn : SerialNumber) → ℕ
numbers_to s cmd_sn =
    if nat_lt (distance s.exp_cmd_sn cmd_sn) (most_under_way - pending s) then distance s.exp_cmd_sn cmd_sn + 1 else 0

-- the number that is awaited where a command with one behind it has come, and was passed over for that
abbrev pub missing_number : TasksValue → Option SerialNumber
missing_number s = if nat_lt 0 s.ahead then Some s.exp_cmd_sn else None

abbrev pub after_command : TasksValue → ScsiCommand → (payload : List ℕ) → Result TakenCommand TasksFault → TasksValue
after_command s c payload (Ok PassedOver) =
    record s { passed_over = remembered s.passed_over c.initiator_task_tag; ahead = max s.ahead (numbers_to s c.cmd_sn) }
after_command s c payload (Ok (Rejected reason)) = counted s c.immediate
after_command s c payload (Ok (Execute count)) = record (counted s c.immediate) { in_hand = Some c }
after_command s c payload (Ok Waits) = record (counted s c.immediate) { waiting = s.waiting ++ begun_task s.parameters c payload ∷ [] }
after_command s c payload (Err fault) = s

-- what is executed at once has its data among what came with it
abbrev pub IsWithin : (count : ℕ) → TakenCommand → Type 0
IsWithin count (Execute n) = n ≤ count
IsWithin count _ = Unit {0}
