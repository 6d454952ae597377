-- What contracts see of the tasks of a session.
use Rattle.std.specs.Prelude.{ℕ, List, [], Option, None, length, sum_by}
use Rattle.iscsi_pdu.specs.declared.scsi_command.ScsiCommand.{ScsiCommand}
use Rattle.iscsi_pdu.specs.declared.serial_number.SerialNumber.{SerialNumber}
use Rattle.iscsi_keys.specs.declared.parameters.SessionParameters.{SessionParameters}
use Rattle.iscsi_tasks.specs.declared.awaiting.Awaiting.{Awaiting}
use Rattle.iscsi_tasks.specs.declared.held_reply.HeldReply.{HeldReply}
use Rattle.iscsi_tasks.specs.declared.reset_tasks.ResetTask.{ResetTask}

-- a command that waits: its data so far, and the R2TSN of its next R2T
pub record TaskValue : Type 0 where
  pub command : ScsiCommand
  pub bytes : List ℕ
  pub awaiting : Awaiting
  pub r2t_sn : SerialNumber

-- what the session goes by; the most data that a unit takes of a command; the commands that wait, in the order in which they are
-- executed; tags of commands that were passed over or aborted; the target transfer tag of the next R2T; the command in hand, which is
-- handed out to be executed or answered as failed, and isn't answered yet; the replies that are held, in the order in which their
-- commands were executed; the last tasks that resets by other sessions have dropped; and how many numbers, from the one that is expected on,
-- lead to the furthest that was passed over since those before it hadn't come
pub record TasksValue : Type 0 where
  pub parameters : SessionParameters
  pub limit : ℕ
  pub exp_cmd_sn : SerialNumber
  pub waiting : List TaskValue
  pub passed_over : List ℕ
  pub next_tag : ℕ
  pub in_hand : Option ScsiCommand
  pub replies : List HeldReply
  pub reset_tasks : List ResetTask
  pub ahead : ℕ

-- before the first PDU
abbrev pub begun_tasks : SessionParameters → (limit : ℕ) → SerialNumber → TasksValue
begun_tasks parameters limit exp_cmd_sn = record {
  parameters = parameters;
  limit = limit;
  exp_cmd_sn = exp_cmd_sn;
  waiting = [];
  passed_over = [];
  next_tag = 0;
  in_hand = None;
  replies = [];
  reset_tasks = [];
  ahead = 0;
}

-- how many bytes of data they hold
abbrev pub held : List TaskValue → ℕ
held tasks = sum_by (λ t. length t.bytes) tasks
