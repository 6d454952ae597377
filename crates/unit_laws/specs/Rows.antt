-- Worked rows at one unit: a drive with an empty tape at LUN 1, where A holds Exclusive Access and B isn't registered. Both had contact.
use Rattle.std.specs.Prelude.{◌≡◌, ℕ, Bool, true, false, List, [], ◌∷◌, ◌++◌, map, replicate, Option, Some, None, Err}
use Rattle.scsi_cdb.specs.declared.service_action.OutServiceAction.TheVariants as out
use Rattle.scsi_cdb.specs.declared.classes.Class.TheVariants as class
use Rattle.scsi_cdb.specs.declared.profile.Profile.TheVariants.{Spec}
use Rattle.scsi_cdb.specs.declared.request.Request.TheVariants as request
use Rattle.scsi_nexus.specs.declared.nexus.Nexus.{Nexus}
use Rattle.scsi_sense.specs.declared.sense.Sense.{Sense}
use Rattle.scsi_sense.specs.declared.status.Status.{Status}
use Rattle.scsi_sense.specs.declared.status.Status.TheVariants.{Good, CheckCondition, ReservationConflict}
use Rattle.scsi_sense.specs.FixedSense.{fixed_sense}
use Rattle.unit_attention.specs.declared.kind.Kind.{Kind}
use Rattle.unit_attention.specs.declared.kind.Kind.TheVariants.{PowerOn, ReservationsReleased}
use Rattle.unit_attention.specs.Queues.{Slots}
use Rattle.permit_tables.specs.declared.cell.Cell.{Cell}
use Rattle.permit_tables.specs.declared.res_type.ResType.TheVariants.{Ea}
use Rattle.permit_tables.specs.declared.role.Role.TheVariants.{Holder, Other}
use Rattle.permit_tables.specs.declared.out_params.OutParams.{OutParams}
use Rattle.pr_core.specs.State.{State}
use Rattle.permit_tables.specs.declared.key_rule.KeyRule.{KeyRule}
use Rattle.permit_tables.specs.declared.key_rule.KeyRule.TheVariants.{K1}
use Rattle.pr_core.specs.declared.verdict.Verdict.TheVariants.{Allowed, Denied, Rule}
use Rattle.tape_medium.specs.Tape.{blank}
use Rattle.tape_medium.specs.declared.volume.Volume.{Volume}
use Rattle.tape_medium.specs.declared.volume.VolumeTag.{VolumeTag}
use Rattle.audit_log.specs.declared.act.Act.{Act}
use Rattle.audit_log.specs.declared.act.Act.TheVariants as act
use Rattle.audit_log.specs.declared.record.Record.{Record}
use Rattle.audit_log.specs.declared.stage.Stage.{Stage}
use Rattle.audit_log.specs.declared.stage.Stage.TheVariants.{Decoding, ReservationCheck, Fields, Device}
use Rattle.tape_medium.specs.Elements.{empty_elements}
use Rattle.device_server.specs.HostChanger.{spec_changer}
use Rattle.device_server.specs.View.{DeviceView, Drive, Changer}
use Rattle.judgement.specs.declared.reply.Reply.{Reply}
use Rattle.judgement.specs.declared.command.Command.TheVariants as command
use Rattle.judgement.specs.UnitStateView.{UnitStateView}
use Rattle.judgement.specs.Readings.{verdict_of}
use Rattle.logical_unit.specs.declared.medium_fault.MediumFault.TheVariants.{NotADrive, Prevented, Empty, Full, Busy}
use Rattle.logical_unit.specs.UnitView.{UnitView}
use Rattle.logical_unit.specs.Step.{answered}
use Rattle.logical_unit.specs.Medium.{taken_out, put_in, IsRefusal}
use Rattle.unit_laws.specs.Check.{ComesToTheCheck}
use Rattle.logical_unit.specs.Legal.{IsJudged}

abbrev pub a : Nexus
a = record { sas = 0x500000000000000A; port = 1 }

abbrev pub b : Nexus
b = record { sas = 0x500000000000000B; port = 1 }

abbrev pub c : Nexus
c = record { sas = 0x500000000000000C; port = 1 }

abbrev pub held : State
held = record { keys = (a, 1) ∷ []; reservation = Some (Ea, a); generation = 1 }

-- nothing waits for A, and for B what is named
abbrev pub slots_with : List Kind → Slots
slots_with waiting = (a, []) ∷ (b, waiting) ∷ []

abbrev pub kept_by_a : Slots → List Nexus → UnitStateView
kept_by_a slots preventers = record { lun = 1; units = 2; profile = Spec; reservations = held; slots = slots; preventers = preventers }

abbrev pub volume : VolumeTag → Volume
volume tag = record { tag = tag; protected = false; tape = blank 1000 }

abbrev pub drive_of : Option Volume → Bool → DeviceView
drive_of bay loaded = Drive (record { bay = bay; loaded = loaded; block_length = 0; hosts = None })

abbrev pub unit_with : DeviceView → UnitStateView → UnitView
unit_with device state = record { device = device; state = state; base = record { state = state; last = 0 }; records = [] }

abbrev pub drive_held : VolumeTag → UnitView
drive_held tag = unit_with (drive_of (Some (volume tag)) true) (kept_by_a (slots_with []) [])

-- the same where B waits for 2Ah/04h, and where A prevents removal
abbrev pub drive_released : VolumeTag → UnitView
drive_released tag = unit_with (drive_of (Some (volume tag)) true) (kept_by_a (slots_with (ReservationsReleased ∷ [])) [])

abbrev pub drive_prevented : VolumeTag → UnitView
drive_prevented tag = unit_with (drive_of (Some (volume tag)) true) (kept_by_a (slots_with []) (a ∷ []))

-- what a host gets, and what the one record says
pub record Answer : Type 0 where
  pub status : Status
  pub sense : List ℕ
  pub payload : List ℕ
  pub stage : Stage
  pub cell : Option Cell
  pub rule : Option KeyRule

abbrev pub sense_bytes : Option Sense → List ℕ
sense_bytes None = []
sense_bytes (Some sense) = fixed_sense sense

abbrev pub answer_with : Reply → List Record → Option Answer
answer_with r (e ∷ []) = Some (record { status = r.status; sense = sense_bytes r.sense; payload = r.payload; stage = e.stage; cell = e.cell; rule = e.rule })
answer_with r es = None

abbrev pub asked : UnitView → Nexus → (cdb bytes : List ℕ) → Option Answer
asked u n cdb bytes = let x = answered u n cdb bytes in answer_with x.1 x.0.records

abbrev pub sense_with : (key asc ascq : ℕ) → List ℕ
sense_with key asc ascq = 0x70 ∷ 0 ∷ key ∷ 0 ∷ 0 ∷ 0 ∷ 0 ∷ 0x0A ∷ 0 ∷ 0 ∷ 0 ∷ 0 ∷ asc ∷ ascq ∷ 0 ∷ 0 ∷ 0 ∷ 0 ∷ []

-- WRITE(6) of two bytes; REGISTER by reservation key and service action reservation key
abbrev pub write : List ℕ
write = 0x0A ∷ 0 ∷ 0 ∷ 0 ∷ 2 ∷ 0 ∷ []

abbrev pub register : List ℕ
register = 0x5F ∷ 0 ∷ 0 ∷ 0 ∷ 0 ∷ 0 ∷ 0 ∷ 0 ∷ 0x18 ∷ 0 ∷ []

abbrev pub keys : (rk sark : ℕ) → List ℕ
keys rk sark = replicate 7 0 ++ rk ∷ replicate 7 0 ++ sark ∷ replicate 8 0

abbrev pub register_params : (rk sark : ℕ) → OutParams
register_params rk sark =
    record { rk = rk; sark = sark; dest = None; act = out.Register; scope_type = 0; unreg = false; defect = None; all_ports = false; listed = false; targets = record { items = [] } }

-- A's WRITE(6) comes to the check and is allowed, B's is denied, and B's REGISTER with a key breaks K1; C's first INQUIRY passes over what
-- waits for C, which C's WRITE(6) is told instead
pub record AtTheCheck (tag : VolumeTag) : Type 0 where
  pub holder_comes : ComesToTheCheck (drive_held tag) a write (7 ∷ 8 ∷ []) (command.Device (request.Write false 2))
  pub holder_verdict : verdict_of held a (command.Device (request.Write false 2)) ≡ Allowed
  pub holder : asked (drive_held tag) a write (7 ∷ 8 ∷ [])
      ≡ Some (record { status = Good; sense = []; payload = []; stage = Device; cell = Some (record { class = class.Write; res_type = Ea; role = Holder }); rule = None })
  pub other_comes : ComesToTheCheck (drive_held tag) b write (7 ∷ 8 ∷ []) (command.Device (request.Write false 2))
  pub other_verdict : verdict_of held b (command.Device (request.Write false 2)) ≡ Denied (record { class = class.Write; res_type = Ea; role = Other })
  pub other : asked (drive_held tag) b write (7 ∷ 8 ∷ [])
      ≡ Some (record { status = ReservationConflict; sense = []; payload = []; stage = ReservationCheck; cell = Some (record { class = class.Write; res_type = Ea; role = Other }); rule = None })
  pub keyless_comes : ComesToTheCheck (drive_held tag) b register (keys 5 2) (command.ReserveOut (register_params 5 2))
  pub keyless_verdict : verdict_of held b (command.ReserveOut (register_params 5 2)) ≡ Rule K1
  pub keyless : asked (drive_held tag) b register (keys 5 2)
      ≡ Some (record { status = ReservationConflict; sense = []; payload = []; stage = ReservationCheck; cell = Some (record { class = class.Register; res_type = Ea; role = Other }); rule = Some K1 })
  pub passes_over : ComesToTheCheck (drive_held tag) c (0x12 ∷ 0 ∷ 0 ∷ 0 ∷ 0x24 ∷ 0 ∷ []) [] (command.Inquiry false 0 0x24)
  pub told_before : ComesToTheCheck (drive_held tag) c write (7 ∷ 8 ∷ []) (command.Device (request.Write false 2)) → ⊥

-- the fields of LOAD UNLOAD come before who prevents removal, whose own unloading is prevented too
pub record Unloading (tag : VolumeTag) : Type 0 where
  pub hold : asked (drive_prevented tag) a (0x1B ∷ 0 ∷ 0 ∷ 0 ∷ 0x08 ∷ 0 ∷ []) []
      ≡ Some (record { status = CheckCondition; sense = sense_with 5 0x24 0; payload = []; stage = Fields; cell = Some (record { class = class.LoadUnload; res_type = Ea; role = Holder }); rule = None })
  pub prevented : asked (drive_prevented tag) a (0x1B ∷ 0 ∷ 0 ∷ 0 ∷ 0 ∷ 0 ∷ []) []
      ≡ Some (record { status = CheckCondition; sense = sense_with 5 0x53 0x02; payload = []; stage = Device; cell = Some (record { class = class.LoadUnload; res_type = Ea; role = Holder }); rule = None })

-- REQUEST SENSE clears what it tells, also where none of it is asked for; with DESC it clears nothing
pub record Sensing (tag : VolumeTag) : Type 0 where
  pub all : (answered (drive_released tag) b (0x03 ∷ 0 ∷ 0 ∷ 0 ∷ 0x12 ∷ 0 ∷ []) []).1.payload ≡ sense_with 6 0x2A 0x04
  pub none : asked (drive_released tag) b (0x03 ∷ 0 ∷ 0 ∷ 0 ∷ 0 ∷ 0 ∷ []) []
      ≡ Some (record { status = Good; sense = []; payload = []; stage = Device; cell = Some (record { class = class.RequestSense; res_type = Ea; role = Other }); rule = None })
  pub none_clears : (answered (drive_released tag) b (0x03 ∷ 0 ∷ 0 ∷ 0 ∷ 0 ∷ 0 ∷ []) []).0.state.slots ≡ slots_with []
  pub descriptor_keeps : (answered (drive_released tag) b (0x03 ∷ 0x01 ∷ 0 ∷ 0 ∷ 0x12 ∷ 0 ∷ []) []).0.state.slots ≡ slots_with (ReservationsReleased ∷ [])

-- bytes that decode to no command give their sender a slot, where 29h/00h waits
pub record FirstContact (tag : VolumeTag) : Type 0 where
  pub slot : (answered (drive_held tag) c (0xFF ∷ []) []).0.state.slots ≡ slots_with [] ++ (c, PowerOn ∷ []) ∷ []
  pub told : asked (drive_held tag) c (0xFF ∷ []) []
      ≡ Some (record { status = CheckCondition; sense = sense_with 5 0x20 0; payload = []; stage = Decoding; cell = None; rule = None })
  pub invalid : map (λ (e : Record). e.act) (answered (drive_held tag) c (0xFF ∷ []) []).0.records ≡ act.Invalid ∷ []

-- PREVENT 1 prevents, 2 and 3 are refused fields, 0 allows
pub record Preventing (tag : VolumeTag) : Type 0 where
  pub one : (answered (drive_held tag) a (0x1E ∷ 0 ∷ 0 ∷ 0 ∷ 1 ∷ 0 ∷ []) []).0.state.preventers ≡ a ∷ []
  pub two : (answered (drive_held tag) a (0x1E ∷ 0 ∷ 0 ∷ 0 ∷ 2 ∷ 0 ∷ []) []).0.state.preventers ≡ []
  pub two_refused : asked (drive_held tag) a (0x1E ∷ 0 ∷ 0 ∷ 0 ∷ 2 ∷ 0 ∷ []) []
      ≡ Some (record { status = CheckCondition; sense = sense_with 5 0x24 0; payload = []; stage = Fields; cell = Some (record { class = class.PreventRemoval; res_type = Ea; role = Holder }); rule = None })
  pub three : (answered (drive_prevented tag) a (0x1E ∷ 0 ∷ 0 ∷ 0 ∷ 3 ∷ 0 ∷ []) []).0.state.preventers ≡ a ∷ []
  pub three_refused : sense_bytes (answered (drive_prevented tag) a (0x1E ∷ 0 ∷ 0 ∷ 0 ∷ 3 ∷ 0 ∷ []) []).1.sense ≡ sense_with 5 0x24 0
  pub zero : (answered (drive_prevented tag) a (0x1E ∷ 0 ∷ 0 ∷ 0 ∷ 0 ∷ 0 ∷ []) []).0.state.preventers ≡ []

-- why a volume isn't taken out, or put in
pub record RefusedMedia (tag : VolumeTag) : Type 0 where
  pub out_of_a_changer : taken_out (unit_with (Changer (spec_changer (empty_elements 1 1 1))) (kept_by_a (slots_with []) (a ∷ []))) ≡ Err NotADrive
  pub out_prevented : taken_out (drive_prevented tag) ≡ Err Prevented
  pub out_of_an_empty_bay : taken_out (unit_with (drive_of None false) (kept_by_a (slots_with []) [])) ≡ Err Empty
  pub into_a_changer : put_in (unit_with (Changer (spec_changer (empty_elements 1 1 1))) (kept_by_a (slots_with []) [])) (volume tag) ≡ Err NotADrive
  pub into_a_full_bay : put_in (drive_prevented tag) (volume tag) ≡ Err Full

-- a refusal is the fault that is due and no other, and BUSY where none is
pub record RefusedAsDue (tag : VolumeTag) : Type 0 where
  pub due : IsRefusal (taken_out (drive_prevented tag)) Prevented
  pub not_busy : IsRefusal (taken_out (drive_prevented tag)) Busy → ⊥
  pub not_another : IsRefusal (taken_out (drive_prevented tag)) Empty → ⊥
  pub busy : IsRefusal (taken_out (drive_held tag)) Busy
  pub nothing_due : IsRefusal (taken_out (drive_held tag)) Empty → ⊥
  pub full : IsRefusal (put_in (drive_held tag) (volume tag)) Full
  pub not_full : IsRefusal (put_in (unit_with (drive_of None false) (kept_by_a (slots_with []) [])) (volume tag)) Full → ⊥

-- a record with no cell and no rule
abbrev pub noted : Nexus → Act → Stage → Status → Option Sense → Record
noted n asked stage status sense =
    record { number = 1; nexus = Some n; act = asked; stage = stage; cell = None; rule = None; status = status; sense = sense; told = None }

-- and in a cell
abbrev pub noted_in : Nexus → Act → Stage → Status → Option Sense → Cell → Record
noted_in n asked stage status sense cell =
    record { number = 1; nexus = Some n; act = asked; stage = stage; cell = Some cell; rule = None; status = status; sense = sense; told = None }

abbrev pub unsensed : Sense
unsensed = record { valid = false; filemark = false; eom = false; ili = false; key = 5; information = 0; asc = 0x24; ascq = 0 }

-- what no legal trail holds: REGISTER without its list, the loss of a nexus without a slot, sense data beside GOOD, a PREVENT that ended
-- in CHECK CONDITION at the device's stage, a TEST UNIT READY whose fields were refused, and an INQUIRY whose fields were refused by a
-- condition of parameter lists
pub record IllegalRecords : Type 0 where
  pub listless : IsJudged (kept_by_a (slots_with []) []) (noted_in a (act.Command class.Register) Device Good None (record { class = class.Register; res_type = Ea; role = Holder })) → ⊥
  pub stranger : IsJudged (kept_by_a (slots_with []) []) (noted c act.Loss Device Good None) → ⊥
  pub sense_beside_good : IsJudged (kept_by_a (slots_with []) []) (noted_in a (act.Command class.Write) Device Good (Some unsensed) (record { class = class.Write; res_type = Ea; role = Holder })) → ⊥
  pub prevent_refused : IsJudged (kept_by_a (slots_with []) []) (noted_in a (act.Command class.PreventRemoval) Device CheckCondition (Some unsensed) (record { class = class.PreventRemoval; res_type = Ea; role = Holder })) → ⊥
  pub fieldless : IsJudged (kept_by_a (slots_with []) []) (noted_in a (act.Command class.TestUnitReady) Fields CheckCondition (Some unsensed) (record { class = class.TestUnitReady; res_type = Ea; role = Holder })) → ⊥
  pub other_condition : IsJudged (kept_by_a (slots_with []) []) (noted_in a (act.Command class.Inquiry) Fields CheckCondition (Some (record unsensed { asc = 0x26 })) (record { class = class.Inquiry; res_type = Ea; role = Holder })) → ⊥

-- and what it holds: the loss of a nexus that has one, a PREVENT that is GOOD, and an INQUIRY whose fields were refused
pub record LegalRecords : Type 0 where
  pub known : IsJudged (kept_by_a (slots_with []) []) (noted b act.Loss Device Good None)
  pub prevented : IsJudged (kept_by_a (slots_with []) []) (noted_in a (act.Command class.PreventRemoval) Device Good None (record { class = class.PreventRemoval; res_type = Ea; role = Holder }))
  pub refused_fields : IsJudged (kept_by_a (slots_with []) []) (noted_in a (act.Command class.Inquiry) Fields CheckCondition (Some unsensed) (record { class = class.Inquiry; res_type = Ea; role = Holder }))
