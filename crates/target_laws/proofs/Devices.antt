-- What a command does to the device of its unit: nothing, or the device's own step.
use Rattle.std.proofs.Common.{◌≡◌, ◌≢◌, ℕ, Bool, true, false, ◌==◌, List, [], Option, Some, None, Result, Ok, Err, refl, sym, inl, inr, subst}
use Rattle.std.specs.Prelude.{◌⊎◌, ◌&&◌, cond}
use Rattle.scsi_cdb.specs.Commands.{decoded}
use Rattle.scsi_cdb.specs.declared.fault.CdbFault.{CdbFault}
use Rattle.scsi_cdb.specs.declared.fault.CdbFault.TheVariants.{Opcode, ShortCdb, ServiceAction, Naca}
use Rattle.scsi_cdb.specs.declared.profile.CommandSet.{CommandSet}
use Rattle.scsi_cdb.specs.declared.request.Request.{Request}
use Rattle.scsi_cdb.specs.declared.request.Request.TheVariants as request
use Rattle.scsi_nexus.specs.declared.nexus.Nexus.{Nexus}
use Rattle.scsi_sense.specs.Conditions.{sense_for}
use Rattle.scsi_sense.specs.declared.condition.Condition.{Condition}
use Rattle.scsi_sense.specs.declared.condition.Condition.TheVariants.{ParameterListLengthError, MediumRemovalPrevented, InvalidFieldInCdb}
use Rattle.scsi_sense.specs.declared.sense.Sense.{Sense}
use Rattle.scsi_sense.specs.declared.status.Status.{Status}
use Rattle.scsi_sense.specs.declared.status.Status.TheVariants.{Good}
use Rattle.unit_attention.specs.declared.kind.Kind.{Kind}
use Rattle.unit_attention.specs.declared.kind.Kind.TheVariants.{PowerOn, BusDeviceReset, NexusLoss, MediumChanged, ModeParametersChanged, LogParametersChanged, ReservationsPreempted, ReservationsReleased, RegistrationsPreempted}
use Rattle.permit_tables.specs.declared.cell.Cell.{Cell}
use Rattle.pr_params.specs.Lists as lists
use Rattle.pr_params.specs.declared.list_fault.ListLengthFault.{ListLengthFault}
use Rattle.permit_tables.specs.declared.out_params.OutParams.{OutParams}
use Rattle.pr_core.specs.Outcome.{refusal}
use Rattle.pr_core.specs.declared.verdict.Verdict.{Verdict}
use Rattle.permit_tables.specs.declared.pr_fault.PrFault.{PrFault}
use Rattle.permit_tables.specs.declared.pr_fault.PrFault.TheVariants.{InvalidField, InvalidParam, InvalidRelease, NoRegistrationRoom}
use Rattle.audit_log.specs.declared.stage.Stage.TheVariants as stage
use Rattle.audit_log.specs.declared.stage.Stage.TheVariants.{Fields}
use Rattle.device_server.specs.Failures.{is_failure}
use Rattle.device_server.specs.View.{DeviceView, commands_of, field_fault, performed}
use Rattle.device_server.proofs.FaultLemmas.{fault_fails, field_free}
use Rattle.judgement.specs.Conditions.{condition_of_fault, condition_of_attention, condition_of_refusal}
use Rattle.judgement.specs.Replies.{busy, good, check, data_reply}
use Rattle.judgement.specs.UnitData.{inquiry_of, selected_luns}
use Rattle.judgement.specs.declared.reply.Reply.{Reply}
use Rattle.judgement.specs.Commands.{command_of, decoded_command}
use Rattle.judgement.specs.declared.command.Command.{Command}
use Rattle.judgement.specs.declared.command.Command.TheVariants.{ReserveOut, ReserveIn, Inquiry, ReportLuns, RequestSense, Prevent, Device}
use Rattle.judgement.specs.UnitState.{accepted, prevented, is_prevented}
use Rattle.judgement.specs.Readings.{pending_of}
use Rattle.judgement.specs.Decisions.{at_stage, let_in}
use Rattle.judgement.specs.Judge.{cell_of, sensed, tells, steps, unloads, performs, at_cell, carried_out, judged_as}
use Rattle.judgement.specs.JudgedUnit.{JudgedUnit}
use Rattle.judgement.specs.declared.decision.Decision.{Decision}
use Rattle.judgement.proofs.Ways.{refuses, by_ways}
use Rattle.logical_unit.specs.Step.{contacted_present, Executes}
use Rattle.logical_unit.specs.UnitView.{UnitView}

-- a command that didn't come to the device's step, and isn't GOOD
pub record IsUnreached (before after : DeviceView) (status : Status) (sense : Option Sense) : Type 0 where
  pub device : after ≡ before
  pub refused : status ≢ Good
  pub free : is_failure sense ≡ false

-- one that did
pub record IsPerformed (before : DeviceView) (q : Request) (bytes : List ℕ) (after : DeviceView) (status : Status) (sense : Option Sense) : Type 0 where
  pub device : after ≡ (performed before q bytes).0
  pub ends : status ≡ (performed before q bytes).1.status
  pub reports : sense ≡ (performed before q bytes).1.sense

-- a command that isn't the device's
pub record IsBeside (before after : DeviceView) (sense : Option Sense) : Type 0 where
  pub device : after ≡ before
  pub free : is_failure sense ≡ false

-- bytes that decode to no command aren't told so by 44h/00h
abbrev pub decoding_fails : Result Command Condition → Bool
decoding_fails (Err condition) = is_failure (Some (sense_for condition))
decoding_fails (Ok c) = false

abbrev pub Does : (before : DeviceView) → Result Command Condition → List ℕ → (after : DeviceView) → Status → Option Sense → Type 0
Does before (Ok (Device q)) bytes after status sense = IsUnreached before after status sense ⊎ IsPerformed before q bytes after status sense
Does before c bytes after status sense = IsBeside before after sense

-- what judgement makes of it
abbrev pub DoesAs : JudgedUnit → Result Command Condition → List ℕ → JudgedUnit × Decision × Reply → Type 0
DoesAs u c bytes x = Does u.device c bytes x.0.device x.2.status x.2.sense

-- WHAT IS REPORTED
attention_free : (kind : Kind) → is_failure (check (condition_of_attention kind)).sense ≡ false
attention_free PowerOn = refl
attention_free BusDeviceReset = refl
attention_free NexusLoss = refl
attention_free MediumChanged = refl
attention_free ModeParametersChanged = refl
attention_free LogParametersChanged = refl
attention_free ReservationsPreempted = refl
attention_free ReservationsReleased = refl
attention_free RegistrationsPreempted = refl

refusal_free : (fault : PrFault) → is_failure (check (condition_of_refusal fault)).sense ≡ false
refusal_free InvalidField = refl
refusal_free InvalidParam = refl
refusal_free InvalidRelease = refl
refusal_free NoRegistrationRoom = refl

fault_free : (fault : CdbFault) → decoding_fails (Err (condition_of_fault fault)) ≡ false
fault_free Opcode = refl
fault_free ShortCdb = refl
fault_free ServiceAction = refl
fault_free Naca = refl

list_free : (o : Result OutParams ListLengthFault) → decoding_fails (elim o [ Ok params ↦ Ok (ReserveOut params) | Err fault ↦ Err ParameterListLengthError ]) ≡ false
list_free (Ok params) = refl
list_free (Err fault) = refl

command_free : (q : Request) (bytes : List ℕ) → decoding_fails (command_of q bytes) ≡ false
command_free (request.PersistentReserveOut action scope_type l) bytes = list_free (lists.decoded_list action scope_type l bytes)
command_free q bytes = refl

decoding_by : (o : Result Request CdbFault) (bytes : List ℕ) → decoding_fails (elim o [ Ok q ↦ command_of q bytes | Err fault ↦ Err (condition_of_fault fault) ]) ≡ false
decoding_by (Ok q) bytes = command_free q bytes
decoding_by (Err fault) bytes = fault_free fault

pub decoding_free : (commands : CommandSet) (cdb bytes : List ℕ) → decoding_fails (decoded_command commands cdb bytes) ≡ false
decoding_free commands cdb bytes = decoding_by (decoded commands cdb) bytes

-- a device's command is the request that the CDB decodes to
list_other : (o : Result OutParams ListLengthFault) (q : Request) → ◌≡◌ {A = Result Command Condition} (elim o [ Ok params ↦ Ok (ReserveOut params) | Err fault ↦ Err ParameterListLengthError ]) (Ok (Device q)) → ⊥
list_other (Ok params) q h = absurd cc
list_other (Err fault) q h = absurd cc

command_reads : (p : Request) (bytes : List ℕ) (q : Request) → command_of p bytes ≡ Ok (Device q) → ◌≡◌ {A = Result Request CdbFault} (Ok p) (Ok q)
command_reads (request.PersistentReserveOut action scope_type l) bytes q h = absurd (list_other (lists.decoded_list action scope_type l bytes) q h)
command_reads p bytes q h = cc

reads_by : (o : Result Request CdbFault) (bytes : List ℕ) (q : Request) → ◌≡◌ {A = Result Command Condition} (elim o [ Ok p ↦ command_of p bytes | Err fault ↦ Err (condition_of_fault fault) ]) (Ok (Device q)) → o ≡ Ok q
reads_by (Ok p) bytes q h = command_reads p bytes q h
reads_by (Err fault) bytes q h = absurd cc

pub reads_device : (commands : CommandSet) (cdb bytes : List ℕ) (q : Request) → decoded_command commands cdb bytes ≡ Ok (Device q) → decoded commands cdb ≡ Ok q
reads_device commands cdb bytes q h = reads_by (decoded commands cdb) bytes q h

-- HOW A COMMAND ENDS
module _ (u : JudgedUnit) (n : Nexus) (bytes : List ℕ) where
  -- it is refused before its own rules
  told : (c : Command) (kind : Kind) (f : Decision) → DoesAs u (Ok c) bytes (tells u n kind f)
  told (Device q) kind f = inl (record { device = refl; refused = λ e. absurd cc; free = attention_free kind })
  told c kind f = record { device = refl; free = attention_free kind }

  barred : (c : Command) (v : Verdict) → DoesAs u (Ok c) bytes (refuses u n c v)
  barred (Device q) v = inl (record { device = refl; refused = λ e. absurd cc; free = refl })
  barred c v = record { device = refl; free = refl }

  -- or by them
  data_does : (at : Cell) (o : Option (List ℕ)) (l : ℕ) → IsBeside u.device u.device (data_reply o l).1.sense
  data_does at (Some payload) l = record { device = refl; free = refl }
  data_does at None l = record { device = refl; free = refl }

  sensed_does : (l : ℕ) (o : Option Kind) → IsBeside u.device u.device (sensed u.state n l o).2.sense
  sensed_does l (Some kind) = record { device = refl; free = refl }
  sensed_does l None = record { device = refl; free = refl }

  either_beside : (b : Bool) (x y : JudgedUnit × Decision × Reply) → IsBeside u.device x.0.device x.2.sense → IsBeside u.device y.0.device y.2.sense → IsBeside u.device (cond b x y).0.device (cond b x y).2.sense
  either_beside true x y p q = p
  either_beside false x y p q = q

  stepped_does : (q : Request) (prevented : Bool)
      → DoesAs u (Ok (Device q)) bytes (cond prevented (u, at_stage stage.Device, check MediumRemovalPrevented) (steps u n (performed u.device q bytes)))
  stepped_does q true = inl (record { device = refl; refused = λ e. absurd cc; free = refl })
  stepped_does q false = inr (record { device = refl; ends = refl; reports = refl })

  performs_does : (q : Request) → DoesAs u (Ok (Device q)) bytes (performs u n q bytes)
  performs_does q =
      elim (field_fault u.device q bytes) as (λ (o : Option Condition). fault_fails o ≡ false
      → DoesAs u (Ok (Device q)) bytes (elim o [ Some condition ↦ (u, at_stage Fields, check condition) | None ↦ cond (unloads q && is_prevented u.state) (u, at_stage stage.Device, check MediumRemovalPrevented) (steps u n (performed u.device q bytes)) ])) [
        | Some condition ↦ λ fields. inl (record { device = refl; refused = λ e. absurd cc; free = fields })
        | None ↦ λ fields. stepped_does q (unloads q && is_prevented u.state)
      ] (field_free (commands_of u.device) q bytes)

  carried : (at : Cell) (c : Command) → DoesAs u (Ok c) bytes (at_cell at (carried_out u n c bytes))
  carried at (ReserveOut p) =
      elim (refusal u.state.reservations n p) as (λ (o : Option PrFault). DoesAs u (Ok (ReserveOut p)) bytes (at_cell at (elim o [ Some fault ↦ (u, at_stage Fields, check (condition_of_refusal fault)) | None ↦ (record u { state = accepted u.state n p }, at_stage stage.Device, good []) ]))) [
        | Some fault ↦ record { device = refl; free = refusal_free fault }
        | None ↦ record { device = refl; free = refl }
      ]
  carried at (ReserveIn a l) = record { device = refl; free = refl }
  carried at (Inquiry e p l) = data_does at (inquiry_of u.device u.state.lun n.port e p) l
  carried at (ReportLuns s l) = data_does at (selected_luns u.state.units s) l
  carried at (RequestSense true l) = record { device = refl; free = refl }
  carried at (RequestSense false l) = sensed_does l (pending_of u.state.slots n)
  carried at (Prevent p) =
      either_beside (p == 0) _ _ (record { device = refl; free = refl })
      (either_beside (p == 1) (record u { state = prevented u.state n }, at_stage stage.Device, good []) (u, at_stage Fields, check InvalidFieldInCdb) (record { device = refl; free = refl }) (record { device = refl; free = refl }))
  carried at (Device q) = performs_does q

  pub judged : (c : Result Command Condition) → decoding_fails c ≡ false → DoesAs u c bytes (judged_as u n c bytes)
  judged (Err condition) free = record { device = refl; free = free }
  judged (Ok c) free = by_ways (DoesAs u (Ok c) bytes) u n c bytes (λ kind. told c kind (at_stage stage.ResetAttention)) (λ v denied. barred c v) (λ kind. told c kind (let_in (cell_of u n c) stage.OtherAttention)) (carried (cell_of u n c) c)

-- A UNIT
unanswered : (device : DeviceView) (c : Result Command Condition) (bytes : List ℕ) → Does device c bytes device busy.status busy.sense
unanswered device (Err condition) bytes = record { device = refl; free = refl }
unanswered device (Ok (Device q)) bytes = inl (record { device = refl; refused = λ e. absurd cc; free = refl })
unanswered device (Ok c) bytes = record { device = refl; free = refl }

pub executed : (w v : UnitView) (n : Nexus) (cdb bytes : List ℕ) (r : Reply) → Executes w n cdb bytes (v, r) → Does w.device (decoded_command (commands_of w.device) cdb bytes) bytes v.device r.status r.sense
executed w v n cdb bytes r (inl e) =
    let c = decoded_command (commands_of w.device) cdb bytes in
    subst (λ (x : UnitView × Reply). Does w.device c bytes x.0.device x.1.status x.1.sense) (sym e) (unanswered w.device c bytes)
executed w v n cdb bytes r (inr e) =
    let c = decoded_command (commands_of w.device) cdb bytes in
    subst (λ (x : UnitView × Reply). Does w.device c bytes x.0.device x.1.status x.1.sense) (sym e.2) (judged (contacted_present w n) n bytes c (decoding_free (commands_of w.device) cdb bytes))
