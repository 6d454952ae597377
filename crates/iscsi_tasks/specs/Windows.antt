-- The command window (RFC 7143, "Command Numbering and Acknowledging"). A command counts in it from the moment when it is taken until it is
-- answered.
use Rattle.std.specs.Prelude.{ℕ, ◌+◌, ◌-◌, ◌%◌, ◌^◌, ◌≤◌, Bool, false, true, not, List, Option, Some, None, count_by, if◌then◌else◌}
use Rattle.iscsi_pdu.specs.declared.scsi_command.ScsiCommand.{ScsiCommand}
use Rattle.iscsi_pdu.specs.declared.serial_number.SerialNumber.{SerialNumber}
use Rattle.iscsi_tasks.specs.declared.held_reply.HeldReply.{HeldReply}
use Rattle.iscsi_tasks.specs.Limits.{most_under_way}
use Rattle.iscsi_tasks.specs.Values.{TaskValue, TasksValue}

-- a command for immediate delivery, or one that has used a number up
abbrev pub is_of : (immediate : Bool) → ScsiCommand → Bool
is_of immediate c = if immediate then c.immediate else not c.immediate

abbrev pub waiting_of : (immediate : Bool) → List TaskValue → ℕ
waiting_of immediate waiting = count_by (λ t. is_of immediate t.command) waiting

abbrev pub held_of : (immediate : Bool) → List HeldReply → ℕ
held_of immediate replies = count_by (λ r. is_of immediate r.command) replies

abbrev pub hand_of : (immediate : Bool) → Option ScsiCommand → ℕ
hand_of immediate None = 0
hand_of immediate (Some c) = if is_of immediate c then 1 else 0

-- those that wait, the one in hand, and those whose replies are held
abbrev pub under_way : (immediate : Bool) → TasksValue → ℕ
under_way immediate s = waiting_of immediate s.waiting + hand_of immediate s.in_hand + held_of immediate s.replies

-- the commands that have used a number up and aren't answered yet
abbrev pub pending : TasksValue → ℕ
pending s = under_way false s

pub record IsInWindow (s : TasksValue) : Type 0 where
  pub few : under_way false s ≤ most_under_way
  pub few_immediate : under_way true s ≤ most_under_way

-- 32 commands may be on their way or be pending
abbrev pub max_cmd_sn : TasksValue → SerialNumber
max_cmd_sn s = record { number = (s.exp_cmd_sn.number + 31 + 2 ^ 32 - pending s) % 2 ^ 32 }
