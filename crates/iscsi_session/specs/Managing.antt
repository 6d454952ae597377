-- What task management does (RFC 7143, "Task Management Function Request"). `notes s d t` says that a call with the answer d makes t of the
-- service s.
use Rattle.std.specs.Prelude.{◌≡◌, ℕ, zero, suc, nat_lt, ◌||◌, MatchBool, List, [], ◌∷◌, Option, Some, None, if◌then◌else◌}
use Rattle.scsi_sense.specs.declared.status.Status.{Status}
use Rattle.scsi_sense.specs.declared.status.Status.TheVariants as status
use Rattle.logical_unit.specs.Answers as event
use Rattle.logical_unit.specs.Answers.{DoneValue, IsAnswer}
use Rattle.iscsi_pdu.specs.Luns.{unit_of}
use Rattle.iscsi_pdu.specs.Pdus.{TargetPduValue}
use Rattle.iscsi_pdu.specs.declared.serial_number.SerialNumber.{SerialNumber}
use Rattle.iscsi_pdu.specs.declared.task_management.TaskManagementFunction.{TaskManagementFunction}
use Rattle.iscsi_pdu.specs.declared.task_management.TaskManagementFunction.TheVariants as asked
use Rattle.iscsi_pdu.specs.declared.task_management_request.TaskManagementRequest.{TaskManagementRequest}
use Rattle.iscsi_pdu.specs.declared.task_management_result.TaskManagementResult.{TaskManagementResult}
use Rattle.iscsi_pdu.specs.declared.task_management_result.TaskManagementResult.TheVariants.{FunctionComplete, TaskDoesNotExist, LunDoesNotExist}
use Rattle.iscsi_pdu.specs.declared.task_management_result.TaskManagementResult.TheVariants.{TaskAllegianceReassignmentNotSupported}
use Rattle.iscsi_pdu.specs.declared.task_management_result.TaskManagementResult.TheVariants.{FunctionNotSupported, FunctionRejected}
use Rattle.iscsi_tasks.specs.Values.{TasksValue}
use Rattle.iscsi_tasks.specs.Commands.{is_taken, counted}
use Rattle.iscsi_tasks.specs.Aborts.{is_waiting_at, was_reset, without_task, without_unit}
use Rattle.iscsi_answers.specs.Single.{task_management_answer}
use Rattle.iscsi_session.specs.Executing.{numbers}

-- how a reset of a unit is told; where the unit has no room for it nothing has changed there
abbrev pub reset_result : Status → TaskManagementResult
reset_result status.Good = FunctionComplete
reset_result status.CheckCondition = LunDoesNotExist
reset_result status.Busy = FunctionRejected
reset_result status.ReservationConflict = FunctionRejected

-- a unit is reset, once
abbrev pub Resets : {S : Type 0} → (S → DoneValue → S → Type 0) → (unit : ℕ) → S → S → TaskManagementResult → Type 0
Resets notes unit s t result = (d : DoneValue) × IsAnswer d None unit event.Reset × notes s d t × (result ≡ reset_result d.reply.status)

-- how a reset of several units is told, by how that of the units before was, and how that of the last one ended: as complete where each was
-- reset, and else as the last of them ended that wasn't
abbrev pub told_of_all : (before last : TaskManagementResult) → TaskManagementResult
told_of_all before FunctionComplete = before
told_of_all before last = last

-- and each unit below one, in ascending order, with all of its tasks dropped
abbrev pub ResetsBelow : {S : Type 0} → (S → DoneValue → S → Type 0) → (units : ℕ) → TasksValue → S → TasksValue → S → TaskManagementResult → Type 0
ResetsBelow notes zero k s k' t result = (k' ≡ k) × (t ≡ s) × (result ≡ FunctionComplete)
ResetsBelow {S} notes (suc unit) k s k' t result =
    (k1 : TasksValue) × (m : S) × (before last : TaskManagementResult) × ResetsBelow notes unit k s k1 m before × (k' ≡ without_unit k1 unit)
    × Resets notes unit m t last × (result ≡ told_of_all before last)

-- the unit that a LUN names, of so many
abbrev pub unit_below : (units : ℕ) → Option ℕ → Option ℕ
unit_below units None = None
unit_below units (Some unit) = if nat_lt unit units then Some unit else None

-- a task is there that waits or whose reply is held; and one that a reset by another session has dropped has ended, as it should (SAM-5, "ABORT
-- TASK"). The first goes first: only that one is dropped
abbrev pub abort_result : TasksValue → (unit tag : ℕ) → TaskManagementResult
abort_result k unit tag = if is_waiting_at k unit tag || was_reset k unit tag then FunctionComplete else TaskDoesNotExist

-- a task at another unit isn't there, whatever its tag
abbrev pub AbortsTask : TasksValue → (tag : ℕ) → Option ℕ → TasksValue → TaskManagementResult → Type 0
AbortsTask k tag None k' result = (k' ≡ k) × (result ≡ LunDoesNotExist)
AbortsTask k tag (Some unit) k' result = (k' ≡ without_task k unit tag) × (result ≡ abort_result k unit tag)

abbrev pub AbortsTaskSet : TasksValue → Option ℕ → TasksValue → TaskManagementResult → Type 0
AbortsTaskSet k None k' result = (k' ≡ k) × (result ≡ LunDoesNotExist)
AbortsTaskSet k (Some unit) k' result = (k' ≡ without_unit k unit) × (result ≡ FunctionComplete)

abbrev pub ResetsUnit : {S : Type 0} → (S → DoneValue → S → Type 0) → TasksValue → S → Option ℕ → TasksValue → S → TaskManagementResult → Type 0
ResetsUnit notes k s None k' t result = (k' ≡ k) × (t ≡ s) × (result ≡ LunDoesNotExist)
ResetsUnit notes k s (Some unit) k' t result = (k' ≡ without_unit k unit) × Resets notes unit s t result

-- what a function does
abbrev pub Manages : {S : Type 0} → (S → DoneValue → S → Type 0) → (units : ℕ) → TaskManagementRequest → TasksValue → S → TaskManagementFunction
    → TasksValue → S → TaskManagementResult → Type 0
Manages notes units r k s asked.AbortTask k' t result = AbortsTask k r.referenced_task_tag (unit_below units (unit_of r.lun)) k' result × (t ≡ s)
Manages notes units r k s asked.AbortTaskSet k' t result = AbortsTaskSet k (unit_below units (unit_of r.lun)) k' result × (t ≡ s)
Manages notes units r k s asked.LogicalUnitReset k' t result = ResetsUnit notes k s (unit_below units (unit_of r.lun)) k' t result
Manages notes units r k s asked.TargetWarmReset k' t result = ResetsBelow notes units k s k' t result
Manages notes units r k s asked.TaskReassign k' t result = (k' ≡ k) × (t ≡ s) × (result ≡ TaskAllegianceReassignmentNotSupported)
Manages notes units r k s asked.ClearAca k' t result = (k' ≡ k) × (t ≡ s) × (result ≡ FunctionNotSupported)
Manages notes units r k s asked.ClearTaskSet k' t result = (k' ≡ k) × (t ≡ s) × (result ≡ FunctionNotSupported)
Manages notes units r k s asked.TargetColdReset k' t result = (k' ≡ k) × (t ≡ s) × (result ≡ FunctionNotSupported)
Manages notes units r k s asked.Reserved k' t result = (k' ≡ k) × (t ≡ s) × (result ≡ FunctionNotSupported)

-- a request is taken or passed over by its number, and what was taken is answered
abbrev pub ManagesTasks : {S : Type 0} → (S → DoneValue → S → Type 0) → (count : S → ℕ) → TaskManagementRequest → TasksValue → S
    → (said : List TargetPduValue) → TasksValue → S → Type 0
ManagesTasks notes count r k s said k' t =
    MatchBool (is_taken k r.immediate r.cmd_sn)
    ((result : TaskManagementResult) × (stat_sn : SerialNumber) × Manages notes (count s) r (counted k r.immediate) s r.function k' t result
    × (said ≡ task_management_answer (numbers k' stat_sn) r.initiator_task_tag result ∷ []))
    ((said ≡ []) × (k' ≡ k) × (t ≡ s))
