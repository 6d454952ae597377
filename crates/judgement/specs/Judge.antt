-- How a command is judged: the stages in their order, the first that applies answers. Stage 1 is what the bytes decode to, stage 2 an
-- attention of ASC 29h that waits, stage 3 the reservation check, stage 4 another attention, stages 5 and 6 the command itself. Beside
-- the unit and the reply it is said what a record says: the stage, the cell and the rule.
use Rattle.std.specs.Prelude.{ℕ, Bool, true, false, not, ◌&&◌, ◌==◌, List, [], take, Option, None, Some, is_none, Result, Ok, Err, if◌then◌else◌}
use Rattle.scsi_cdb.specs.declared.classes.Class.{Class}
use Rattle.scsi_cdb.specs.declared.request.Request.{Request}
use Rattle.scsi_cdb.specs.declared.request.Request.TheVariants.{LoadUnload}
use Rattle.scsi_nexus.specs.declared.nexus.Nexus.{Nexus}
use Rattle.scsi_sense.specs.declared.condition.Condition.{Condition}
use Rattle.scsi_sense.specs.declared.condition.Condition.TheVariants.{NoAdditionalSenseInformation, InvalidFieldInCdb, MediumRemovalPrevented}
use Rattle.unit_attention.specs.declared.kind.Kind.{Kind}
use Rattle.unit_attention.specs.Queues.{first_reset_of, first_other_of}
use Rattle.permit_tables.specs.declared.cell.Cell.{Cell}
use Rattle.permit_tables.specs.declared.out_params.OutParams.{OutParams}
use Rattle.pr_core.specs.State.{cell}
use Rattle.pr_core.specs.Outcome.{refusal}
use Rattle.pr_core.specs.declared.verdict.Verdict.{Verdict}
use Rattle.pr_core.specs.declared.verdict.Verdict.TheVariants.{Allowed, Denied, Rule}
use Rattle.audit_log.specs.declared.stage.Stage.{Stage}
use Rattle.audit_log.specs.declared.stage.Stage.TheVariants.{Decoding, ResetAttention, OtherAttention, Fields, Device}
use Rattle.device_server.specs.View.{DeviceView, commands_of, field_fault, performed}
use Rattle.device_server.specs.Volumes.{is_move}
use Rattle.device_server.specs.declared.outcome.Outcome.{Outcome}
use Rattle.judgement.specs.declared.command.Command.{Command}
use Rattle.judgement.specs.declared.command.Command.TheVariants as command
use Rattle.judgement.specs.declared.command.Command.TheVariants.{ReserveOut, ReserveIn, Inquiry, ReportLuns, RequestSense, Prevent}
use Rattle.judgement.specs.declared.reply.Reply.{Reply}
use Rattle.judgement.specs.Conditions.{condition_of_attention, condition_of_refusal}
use Rattle.judgement.specs.Commands.{decoded_command, class_of_command, passes_over}
use Rattle.judgement.specs.declared.decision.Decision.{Decision}
use Rattle.judgement.specs.Decisions.{at_stage, at_device, in_cell, let_in, in_conflict}
use Rattle.judgement.specs.UnitData.{inquiry_of, selected_luns, sense_data}
use Rattle.judgement.specs.Replies.{good, check, conflict, replied, data_reply}
use Rattle.judgement.specs.UnitStateView.{UnitStateView}
use Rattle.judgement.specs.JudgedUnit.{JudgedUnit}
use Rattle.judgement.specs.UnitState.{reported, accepted, prevented, allowed, is_prevented, after_telling}
use Rattle.judgement.specs.Readings.{verdict_of, status_data, pending_of}

-- the cell of the permission table that a command of a sender stands in
abbrev pub cell_of : JudgedUnit → Nexus → Command → Cell
cell_of u n command = cell u.state.reservations n (class_of_command command)

-- an attention is reported, and waits no more
abbrev pub tells : JudgedUnit → Nexus → Kind → Decision → JudgedUnit × Decision × Reply
tells u n kind decision = (record u { state = reported u.state n kind }, decision, check (condition_of_attention kind))

-- an allowed PERSISTENT RESERVE OUT command is refused, or accepted
abbrev pub reserves : JudgedUnit → Nexus → OutParams → JudgedUnit × Decision × Reply
reserves u n params = elim (refusal u.state.reservations n params) [
  | Some fault ↦ (u, at_stage Fields, check (condition_of_refusal fault))
  | None ↦ (record u { state = accepted u.state n params }, at_stage Device, good [])
]

-- the device's step; every other slot is told what the command tells
abbrev pub steps : JudgedUnit → Nexus → DeviceView × Outcome → JudgedUnit × Decision × Reply
steps u n step = (
  record { device = step.0; state = after_telling u.state n step.1.told },
  at_device step.1.told,
  replied step.1,
)

-- whether a command would have a volume unloaded
abbrev pub unloads : Request → Bool
unloads (LoadUnload hold eot load) = not load
unloads request = false

-- a command of the device: by its fields, then (SSC-4, "LOAD UNLOAD command") by who prevents removal, then by the device
abbrev pub performs : JudgedUnit → Nexus → Request → List ℕ → JudgedUnit × Decision × Reply
performs u n request bytes = elim (field_fault u.device request bytes) [
  | Some condition ↦ (u, at_stage Fields, check condition)
  | None ↦
      if unloads request && is_prevented u.state then (u, at_stage Device, check MediumRemovalPrevented)
      else steps u n (performed u.device request bytes)
]

-- REQUEST SENSE (SPC-4, "REQUEST SENSE command") tells the attention that waits as data, and it waits no more
abbrev pub sensed : UnitStateView → Nexus → (allocation_length : ℕ) → Option Kind → UnitStateView × Decision × Reply
sensed k n allocation_length (Some kind) =
    (reported k n kind, at_stage Device, good (take allocation_length (sense_data (condition_of_attention kind))))
sensed k n allocation_length None = (k, at_stage Device, good (take allocation_length (sense_data NoAdditionalSenseInformation)))

-- descriptor format sense data isn't offered
abbrev pub requests_sense : UnitStateView → Nexus → (desc : Bool) → (allocation_length : ℕ) → UnitStateView × Decision × Reply
requests_sense k n true allocation_length = (k, at_stage Fields, check InvalidFieldInCdb)
requests_sense k n false allocation_length = sensed k n allocation_length (pending_of k.slots n)

abbrev pub senses : JudgedUnit → UnitStateView × Decision × Reply → JudgedUnit × Decision × Reply
senses u answer = (record u { state = answer.0 }, answer.1, answer.2)

-- PREVENT ALLOW MEDIUM REMOVAL (SPC-4, "PREVENT ALLOW MEDIUM REMOVAL command"): 0 allows, 1 prevents, and the obsolete 2 and 3 aren't
-- offered
abbrev pub prevents : JudgedUnit → Nexus → (prevent : ℕ) → JudgedUnit × Decision × Reply
prevents u n prevent =
    if prevent == 0 then (record u { state = allowed u.state n }, at_stage Device, good [])
    else if prevent == 1 then (record u { state = prevented u.state n }, at_stage Device, good [])
    else (u, at_stage Fields, check InvalidFieldInCdb)

-- an answer that changes nothing
abbrev pub answers : JudgedUnit → Stage × Reply → JudgedUnit × Decision × Reply
answers u answer = (u, at_stage answer.0, answer.1)

-- stages 5 and 6: the command by its own rules; an allocation length cuts data, and changes nothing in it
abbrev pub carried_out : JudgedUnit → Nexus → Command → List ℕ → JudgedUnit × Decision × Reply
carried_out u n (ReserveOut params) bytes = reserves u n params
carried_out u n (ReserveIn action allocation_length) bytes =
    (u, at_stage Device, good (take allocation_length (status_data u.state.reservations action)))
carried_out u n (Inquiry evpd page allocation_length) bytes =
    answers u (data_reply (inquiry_of u.device u.state.lun n.port evpd page) allocation_length)
carried_out u n (ReportLuns select allocation_length) bytes = answers u (data_reply (selected_luns u.state.units select) allocation_length)
carried_out u n (RequestSense desc allocation_length) bytes = senses u (requests_sense u.state n desc allocation_length)
carried_out u n (Prevent prevent) bytes = prevents u n prevent
carried_out u n (command.Device request) bytes = performs u n request bytes

-- the cell of a command that came through the reservation check
abbrev pub at_cell : Cell → JudgedUnit × Decision × Reply → JudgedUnit × Decision × Reply
at_cell cell answer = (answer.0, in_cell cell answer.1, answer.2)

-- an attention that waits, unless the class passes over it
abbrev pub waiting : Class → Option Kind → Option Kind
waiting class pending = if passes_over class then None else pending

-- stage 4: an attention of another ASC waits, or the command is carried out
abbrev pub let_through : JudgedUnit → Nexus → Command → List ℕ → JudgedUnit × Decision × Reply
let_through u n command bytes = elim (waiting (class_of_command command) (first_other_of u.state.slots n)) [
  | Some kind ↦ tells u n kind (let_in (cell_of u n command) OtherAttention)
  | None ↦ at_cell (cell_of u n command) (carried_out u n command bytes)
]

-- stage 3: the reservation check
abbrev pub checked : JudgedUnit → Nexus → Command → List ℕ → JudgedUnit × Decision × Reply
checked u n command bytes = elim (verdict_of u.state.reservations n command) [
  | Allowed ↦ let_through u n command bytes
  | Denied cell ↦ (u, in_conflict (cell_of u n command) None, conflict)
  | Rule rule ↦ (u, in_conflict (cell_of u n command) (Some rule), conflict)
]

-- stage 2: an attention of ASC 29h waits, or the command comes to the reservation check
abbrev pub commanded : JudgedUnit → Nexus → Command → List ℕ → JudgedUnit × Decision × Reply
commanded u n command bytes = elim (waiting (class_of_command command) (first_reset_of u.state.slots n)) [
  | Some kind ↦ tells u n kind (at_stage ResetAttention)
  | None ↦ checked u n command bytes
]

-- stage 1: the bytes decode to no command, or one
abbrev pub judged_as : JudgedUnit → Nexus → Result Command Condition → (bytes : List ℕ) → JudgedUnit × Decision × Reply
judged_as u n (Err condition) bytes = (u, at_stage Decoding, check condition)
judged_as u n (Ok command) bytes = commanded u n command bytes

abbrev pub judged : JudgedUnit → Nexus → (cdb bytes : List ℕ) → JudgedUnit × Decision × Reply
judged u n cdb bytes = judged_as u n (decoded_command (commands_of u.device) cdb bytes) bytes

-- whether a verdict allows
abbrev pub is_allowed_by : Verdict → Bool
is_allowed_by Allowed = true
is_allowed_by verdict = false

-- whether a command comes to its own rules: no attention waits that it doesn't pass over, and the reservation check allows it
abbrev pub is_carried_out : JudgedUnit → Nexus → Command → Bool
is_carried_out u n command =
    is_none (waiting (class_of_command command) (first_reset_of u.state.slots n))
    && (is_allowed_by (verdict_of u.state.reservations n command) && is_none (waiting (class_of_command command) (first_other_of u.state.slots n)))

-- whether a command's own rules may take memory: PREVENT ALLOW MEDIUM REMOVAL, PERSISTENT RESERVE OUT and MOVE MEDIUM take none
abbrev pub asks_memory : Command → Bool
asks_memory (Prevent prevent) = false
asks_memory (ReserveOut params) = false
asks_memory (command.Device request) = not (is_move request)
asks_memory command = true

-- whether a command that is judged may take memory beside the room for its record: a parameter list of PERSISTENT RESERVE OUT is kept, and
-- others take some where they come to their own rules alone
abbrev pub takes_memory : JudgedUnit → Nexus → Result Command Condition → Bool
takes_memory u n (Err condition) = false
takes_memory u n (Ok (ReserveOut params)) = true
takes_memory u n (Ok command) = asks_memory command && is_carried_out u n command
