-- Data-Out, as they come (RFC 7143, "SCSI Data-Out").
use Rattle.std.specs.Prelude.{ℕ, ◌+◌, ◌==◌, nat_le, Bool, not, List, [], ◌∷◌, ◌++◌, length, Option, Some, None, Result, Ok, Err, if◌then◌else◌}
use Rattle.std.specs.List.{list_any}
use Rattle.iscsi_pdu.specs.declared.data_out.DataOut.{DataOut}
use Rattle.iscsi_pdu.specs.declared.reject_reason.RejectReason.TheVariants.{ProtocolError, InvalidPduField}
use Rattle.iscsi_tasks.specs.declared.awaiting.Awaiting.{Awaiting}
use Rattle.iscsi_tasks.specs.declared.awaiting.Awaiting.TheVariants.{Turn, Data, Failing, Failed}
use Rattle.iscsi_tasks.specs.declared.sequence.DataSequence.{DataSequence}
use Rattle.iscsi_tasks.specs.declared.taken.TakenData.{TakenData}
use Rattle.iscsi_tasks.specs.declared.taken.TakenData.TheVariants.{Taken, PassedOver, Rejected}
use Rattle.iscsi_tasks.specs.declared.fault.TaskFault.{TaskFault}
use Rattle.iscsi_tasks.specs.declared.fault.TaskFault.TheVariants.{UnexpectedUnsolicitedData}
use Rattle.iscsi_tasks.specs.declared.fault.TasksFault.{TasksFault}
use Rattle.iscsi_tasks.specs.declared.fault.TasksFault.TheVariants.{TooMuchData}
use Rattle.iscsi_tasks.specs.Limits.{most_held}
use Rattle.iscsi_tasks.specs.Values.{TaskValue, TasksValue, held}
use Rattle.iscsi_tasks.specs.Writes.{failed, data_fault, behind_data}
use Rattle.iscsi_tasks.specs.Commands.{has_tag, is_waiting}

abbrev pub with_fault : TaskValue → (is_final : Bool) → TaskFault → TaskValue
with_fault t is_final fault = record t { bytes = []; awaiting = failed is_final fault }

-- the data are put behind those that are there
abbrev pub unless_data_fault : TaskValue → DataSequence → DataOut → (payload : List ℕ) → Option TaskFault → TaskValue
unless_data_fault t s d payload (Some fault) = with_fault t d.is_final fault
unless_data_fault t s d payload None = record t { bytes = t.bytes ++ payload; awaiting = behind_data d.is_final s }

abbrev pub task_at : TaskValue → Awaiting → DataOut → (payload : List ℕ) → TaskValue
task_at t Turn d payload = with_fault t d.is_final UnexpectedUnsolicitedData
task_at t (Data s) d payload = unless_data_fault t s d payload (data_fault s (length t.bytes) d (length payload))
task_at t (Failing fault) d payload = record t { awaiting = failed d.is_final fault }
task_at t (Failed fault) d payload = t

-- a task once a Data-Out that carries its tag has come
abbrev pub task_after : TaskValue → DataOut → (payload : List ℕ) → TaskValue
task_after t d payload = task_at t t.awaiting d payload

abbrev pub fault_answer : Option TaskFault → TakenData
fault_answer (Some fault) = Rejected ProtocolError
fault_answer None = Taken

abbrev pub answer_at : Awaiting → (held : ℕ) → DataOut → (count : ℕ) → TakenData
answer_at Turn held d count = Rejected ProtocolError
answer_at (Data s) held d count = fault_answer (data_fault s held d count)
answer_at (Failing fault) held d count = PassedOver
answer_at (Failed fault) held d count = PassedOver

abbrev pub task_answer : TaskValue → DataOut → (count : ℕ) → TakenData
task_answer t d count = answer_at t.awaiting (length t.bytes) d count

-- of the tasks the one with the tag
abbrev pub answer_among : List TaskValue → DataOut → (count : ℕ) → TakenData
answer_among [] d count = PassedOver
answer_among (t ∷ ts) d count = if has_tag d.initiator_task_tag t then task_answer t d count else answer_among ts d count

abbrev pub tasks_after : List TaskValue → DataOut → (payload : List ℕ) → List TaskValue
tasks_after [] d payload = []
tasks_after (t ∷ ts) d payload =
    if has_tag d.initiator_task_tag t then task_after t d payload ∷ ts else t ∷ tasks_after ts d payload

-- where no task has the tag
abbrev pub answer_without : (passed_over : List ℕ) → (tag : ℕ) → TakenData
answer_without tags tag = if list_any (λ x. x == tag) tags then PassedOver else Rejected InvalidPduField

abbrev pub data_answer : TasksValue → DataOut → (count : ℕ) → Result TakenData TasksFault
data_answer s d count =
    if not (is_waiting s d.initiator_task_tag) then Ok (answer_without s.passed_over d.initiator_task_tag)
    else if nat_le (held s.waiting + count) most_held then Ok (answer_among s.waiting d count)
    else Err TooMuchData

abbrev pub after_data : TasksValue → DataOut → (payload : List ℕ) → Result TakenData TasksFault → TasksValue
after_data s d payload (Ok answer) =
    if is_waiting s d.initiator_task_tag then record s { waiting = tasks_after s.waiting d payload } else s
after_data s d payload (Err fault) = s
