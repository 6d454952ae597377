-- What is to be done next with the command that waits longest (RFC 7143, "Ready To Transfer (R2T)").
use Rattle.std.specs.Prelude.{ℕ, ◌+◌, ◌-◌, nat_lt, nat_le, Bool, ◌∷◌, length, take, drop, min, slice_get, Option, Some, None, if◌then◌else◌}
use Rattle.iscsi_pdu.specs.SerialNumbers.{next}
use Rattle.iscsi_pdu.specs.declared.serial_number.SerialNumber.{SerialNumber}
use Rattle.iscsi_pdu.specs.declared.r2t.ReadyToTransfer.{ReadyToTransfer}
use Rattle.iscsi_keys.specs.declared.parameters.SessionParameters.{SessionParameters}
use Rattle.iscsi_tasks.specs.declared.awaiting.Awaiting.{Awaiting}
use Rattle.iscsi_tasks.specs.declared.awaiting.Awaiting.TheVariants.{Turn, Data, Failing, Failed}
use Rattle.iscsi_tasks.specs.declared.next_task.NextTask.{NextTask}
use Rattle.iscsi_tasks.specs.declared.next_task.NextTask.TheVariants.{Idle, Execute, Ask, Fail}
use Rattle.iscsi_tasks.specs.declared.next_task.TransferRequest.{TransferRequest}
use Rattle.iscsi_tasks.specs.Values.{TaskValue, TasksValue}
use Rattle.iscsi_tasks.specs.Writes.{wanted}

abbrev pub is_whole : (limit : ℕ) → TaskValue → Bool
is_whole limit t = nat_le (wanted limit t.command) (length t.bytes)

-- with the data that its unit gets
abbrev pub handed : (limit : ℕ) → TaskValue → TaskValue
handed limit t = record t { bytes = take (wanted limit t.command) t.bytes }

-- what is left is asked for, at most a burst of it
abbrev pub desired : SessionParameters → (limit : ℕ) → TaskValue → ℕ
desired p limit t = min p.max_burst_length (wanted limit t.command - length t.bytes)

abbrev pub request : SessionParameters → (limit tag : ℕ) → TaskValue → TransferRequest
request p limit tag t = record {
  lun = t.command.lun;
  initiator_task_tag = t.command.initiator_task_tag;
  target_transfer_tag = tag;
  r2t_sn = t.r2t_sn;
  buffer_offset = length t.bytes;
  desired_data_transfer_length = desired p limit t;
}

-- the task that has been asked
abbrev pub asked : SessionParameters → (limit tag : ℕ) → TaskValue → TaskValue
asked p limit tag t = record t {
  awaiting = Data (record { target_transfer_tag = tag; end = length t.bytes + desired p limit t; data_sn = record { number = 0 } });
  r2t_sn = next t.r2t_sn;
}

-- FFFFFFFFh is no tag
abbrev pub tag_after : (tag : ℕ) → ℕ
tag_after tag = if nat_lt tag 0xFFFFFFFE then tag + 1 else 0

abbrev pub next_at : TasksValue → TaskValue → Awaiting → NextTask
next_at s t Turn = if is_whole s.limit t then Execute (handed s.limit t) else Ask (request s.parameters s.limit s.next_tag t)
next_at s t (Data sequence) = Idle
next_at s t (Failing fault) = Idle
next_at s t (Failed fault) = Fail t fault

abbrev pub next_for : TasksValue → Option TaskValue → NextTask
next_for s None = Idle
next_for s (Some t) = next_at s t t.awaiting

-- the first of those that wait
abbrev pub next_of : TasksValue → NextTask
next_of s = next_for s (slice_get s.waiting 0)

-- it is in hand from then on
abbrev pub without_first : TasksValue → TaskValue → TasksValue
without_first s t = record s { waiting = drop 1 s.waiting; in_hand = Some t.command }

abbrev pub with_first_asked : TasksValue → TaskValue → TasksValue
with_first_asked s t =
    record s { waiting = asked s.parameters s.limit s.next_tag t ∷ drop 1 s.waiting; next_tag = tag_after s.next_tag }

-- a command that is handed out waits no longer
abbrev pub left_at : TasksValue → TaskValue → Awaiting → TasksValue
left_at s t Turn = if is_whole s.limit t then without_first s t else with_first_asked s t
left_at s t (Data sequence) = s
left_at s t (Failing fault) = s
left_at s t (Failed fault) = without_first s t

abbrev pub left_for : TasksValue → Option TaskValue → TasksValue
left_for s None = s
left_for s (Some t) = left_at s t t.awaiting

abbrev pub after_next : TasksValue → TasksValue
after_next s = left_for s (slice_get s.waiting 0)

-- an R2T with the numbers of the session
abbrev pub ready_to_transfer : TransferRequest → (stat_sn exp_cmd_sn max_cmd_sn : SerialNumber) → ReadyToTransfer
ready_to_transfer r stat_sn exp_cmd_sn max_cmd_sn = record {
  lun = r.lun;
  initiator_task_tag = r.initiator_task_tag;
  target_transfer_tag = r.target_transfer_tag;
  stat_sn = stat_sn;
  exp_cmd_sn = exp_cmd_sn;
  max_cmd_sn = max_cmd_sn;
  r2t_sn = r.r2t_sn;
  buffer_offset = r.buffer_offset;
  desired_data_transfer_length = r.desired_data_transfer_length;
}
