-- Worked rows: how B's and A's commands are decided at the reservation check, each beside answers that aren't so. The drive is that of the
-- other rows, which A holds.
use Rattle.std.specs.Prelude.{true, false, List, [], ◌∷◌, Option, Some, None}
use Rattle.scsi_cdb.specs.declared.classes.Class.{Class}
use Rattle.scsi_cdb.specs.declared.classes.Class.TheVariants as class
use Rattle.scsi_cdb.specs.declared.request.Request.TheVariants as request
use Rattle.scsi_nexus.specs.declared.nexus.Nexus.{Nexus}
use Rattle.scsi_sense.specs.declared.status.Status.{Status}
use Rattle.scsi_sense.specs.declared.status.Status.TheVariants.{Good, ReservationConflict}
use Rattle.permit_tables.specs.declared.res_type.ResType.TheVariants.{Ea}
use Rattle.permit_tables.specs.declared.role.Role.{Role}
use Rattle.permit_tables.specs.declared.role.Role.TheVariants.{Holder, Registered, Other}
use Rattle.permit_tables.specs.declared.key_rule.KeyRule.{KeyRule}
use Rattle.permit_tables.specs.declared.key_rule.KeyRule.TheVariants.{K1, K3}
use Rattle.pr_core.specs.State.{power_on}
use Rattle.tape_medium.specs.Object.{Block}
use Rattle.tape_medium.specs.declared.volume.VolumeTag.{VolumeTag}
use Rattle.audit_log.specs.declared.act.Act.{Act}
use Rattle.audit_log.specs.declared.act.Act.TheVariants as act
use Rattle.audit_log.specs.declared.record.Record.{Record}
use Rattle.audit_log.specs.declared.stage.Stage.{Stage}
use Rattle.audit_log.specs.declared.stage.Stage.TheVariants.{ReservationCheck, Device}
use Rattle.device_server.specs.View.{DeviceView, Drive}
use Rattle.judgement.specs.declared.command.Command.{Command}
use Rattle.judgement.specs.declared.command.Command.TheVariants as command
use Rattle.judgement.specs.declared.reply.Reply.{Reply}
use Rattle.logical_unit.specs.UnitView.{UnitView}
use Rattle.unit_laws.specs.Check.{IsDecidedAs}
use Rattle.unit_laws.specs.Rows.{a, b, volume, drive_of, drive_held, keys, register_params}

-- the first record of a unit, in a cell of Exclusive Access
abbrev pub first : Nexus → Act → Stage → (asked : Class) → Role → Option KeyRule → Status → Record
first n asked stage class role rule status = record {
  number = 1;
  nexus = Some n;
  act = asked;
  stage = stage;
  cell = Some (record { class = class; res_type = Ea; role = role });
  rule = rule;
  status = status;
  sense = None;
  told = None;
}

-- a status alone, with the number of the first record
abbrev pub ends : Status → Reply
ends status = record { status = status; sense = None; payload = []; number = 1 }

-- a unit whose records are these
abbrev pub with_records : UnitView → List Record → UnitView
with_records u es = record u { records = es }

-- B's WRITE(6) of two bytes
abbrev pub write : Command
write = command.Device (request.Write false 2)

abbrev pub barred : Role → Record
barred role = first b (act.Command class.Write) ReservationCheck class.Write role None ReservationConflict

abbrev pub AnswersB : VolumeTag → UnitView × Reply → Type 0
AnswersB tag answer = IsDecidedAs (drive_held tag) b write (7 ∷ 8 ∷ []) answer

-- the drive as it was, with the record of the conflict
abbrev pub drive_barred : VolumeTag → UnitView
drive_barred tag = with_records (drive_held tag) (barred Other ∷ [])

-- the drive with what A and B wrote
abbrev pub written : VolumeTag → DeviceView
written tag = Drive (record { bay = Some (record (volume tag) { tape = record { objects = Block (7 ∷ 8 ∷ []) ∷ []; position = 1; capacity = 1000; unchanged = 0 } }); loaded = true; block_length = 0; hosts = None })

-- it ends in conflict with nothing changed and one record, in B's cell
pub record BarredWrite (tag : VolumeTag) : Type 0 where
  pub due : AnswersB tag (drive_barred tag, ends ReservationConflict)
  pub good : AnswersB tag (drive_barred tag, ends Good) → ⊥
  pub unnumbered : AnswersB tag (drive_barred tag, record (ends ReservationConflict) { number = 0 }) → ⊥
  pub with_data : AnswersB tag (drive_barred tag, record (ends ReservationConflict) { payload = 7 ∷ [] }) → ⊥
  pub registration_lost : AnswersB tag (record (drive_barred tag) { state = record (drive_held tag).state { reservations = power_on } }, ends ReservationConflict) → ⊥
  pub prevented : AnswersB tag (record (drive_barred tag) { state = record (drive_held tag).state { preventers = b ∷ [] } }, ends ReservationConflict) → ⊥
  pub written : AnswersB tag (record (drive_barred tag) { device = written tag }, ends ReservationConflict) → ⊥
  pub unloaded : AnswersB tag (record (drive_barred tag) { device = drive_of (Some (volume tag)) false }, ends ReservationConflict) → ⊥
  pub unrecorded : AnswersB tag (drive_held tag, ends ReservationConflict) → ⊥
  pub recorded_twice : AnswersB tag (with_records (drive_held tag) (barred Other ∷ barred Other ∷ []), ends ReservationConflict) → ⊥
  pub another_cell : AnswersB tag (with_records (drive_held tag) (barred Registered ∷ []), ends ReservationConflict) → ⊥
  pub another_rule : AnswersB tag (with_records (drive_held tag) (record (barred Other) { rule = Some K1 } ∷ []), ends ReservationConflict) → ⊥
  pub another_sender : AnswersB tag (with_records (drive_held tag) (record (barred Other) { nexus = Some a } ∷ []), ends ReservationConflict) → ⊥

-- B's REGISTER with a key that it hasn't: the record names the rule
abbrev pub unkeyed : Option KeyRule → Record
unkeyed rule = first b (act.ReserveOut (register_params 5 2)) ReservationCheck class.Register Other rule ReservationConflict

abbrev pub AnswersRegister : VolumeTag → UnitView × Reply → Type 0
AnswersRegister tag answer = IsDecidedAs (drive_held tag) b (command.ReserveOut (register_params 5 2)) (keys 5 2) answer

pub record BarredRegister (tag : VolumeTag) : Type 0 where
  pub due : AnswersRegister tag (with_records (drive_held tag) (unkeyed (Some K1) ∷ []), ends ReservationConflict)
  pub no_rule : AnswersRegister tag (with_records (drive_held tag) (unkeyed None ∷ []), ends ReservationConflict) → ⊥
  pub another_rule : AnswersRegister tag (with_records (drive_held tag) (unkeyed (Some K3) ∷ []), ends ReservationConflict) → ⊥

-- A's WRITE(6) is carried out
abbrev pub let_in : Record
let_in = first a (act.Command class.Write) Device class.Write Holder None Good

abbrev pub AnswersA : VolumeTag → UnitView × Reply → Type 0
AnswersA tag answer = IsDecidedAs (drive_held tag) a write (7 ∷ 8 ∷ []) answer

abbrev pub drive_written : VolumeTag → UnitView
drive_written tag = record (with_records (drive_held tag) (let_in ∷ [])) { device = written tag }

pub record AllowedWrite (tag : VolumeTag) : Type 0 where
  pub due : AnswersA tag (drive_written tag, ends Good)
  pub conflict : AnswersA tag (drive_written tag, ends ReservationConflict) → ⊥
  pub unwritten : AnswersA tag (with_records (drive_held tag) (let_in ∷ []), ends Good) → ⊥
  pub unrecorded : AnswersA tag (record (drive_written tag) { records = [] }, ends Good) → ⊥
