-- Worked rows of a move with a drive: the volume in 0400h goes into the drive at 0100h, LUN 1. Which volume it is, where it comes from and
-- goes to, and that the changer's other elements stay; what isn't such a move; and what is reported where none can go.
use Rattle.std.specs.Prelude.{◌≡◌, ℕ, false, List, [], ◌∷◌, Option, Some, None}
use Rattle.scsi_cdb.specs.declared.classes.Class.TheVariants as class
use Rattle.permit_tables.specs.declared.res_type.ResType.TheVariants as restype
use Rattle.permit_tables.specs.declared.role.Role.TheVariants.{Other}
use Rattle.scsi_nexus.specs.declared.nexus.Nexus.{Nexus}
use Rattle.scsi_sense.specs.declared.condition.Condition.TheVariants.{InternalTargetFailure}
use Rattle.scsi_sense.specs.declared.sense.Sense.{Sense}
use Rattle.scsi_sense.specs.declared.status.Status.TheVariants.{Good, CheckCondition}
use Rattle.unit_attention.specs.declared.kind.Kind.TheVariants.{MediumChanged}
use Rattle.permit_tables.specs.declared.cell.Cell.{Cell}
use Rattle.pr_core.specs.State.{power_on}
use Rattle.tape_medium.specs.declared.volume.Volume.{Volume}
use Rattle.tape_medium.specs.declared.volume.VolumeTag.{VolumeTag}
use Rattle.audit_log.specs.declared.act.Act.{Act}
use Rattle.audit_log.specs.declared.act.Act.TheVariants as act
use Rattle.audit_log.specs.declared.record.Record.{Record}
use Rattle.audit_log.specs.declared.stage.Stage.TheVariants as stage
use Rattle.device_server.specs.View.{DeviceView}
use Rattle.judgement.specs.declared.reply.Reply.{Reply}
use Rattle.logical_unit.specs.UnitView.{UnitView}
use Rattle.logical_unit.specs.declared.route.Route.{Route}
use Rattle.unit_laws.specs.MoveRows.{first_tag, second_tag, move, drive_1, slot_1, slot_2, library, changer_of, empty_drive, full_drive}
use Rattle.unit_laws.specs.Rows.{a, b, volume, drive_prevented}
use Rattle.target_laws.specs.Headline.{GoesBy, stop_of, IsMovedAt, IsServed}
use Rattle.target_laws.specs.LibraryRows.{test_unit_ready}
use Rattle.target_laws.specs.Rows.{good_with, not_supported}

-- the move's way
abbrev pub inward : Route
inward = record { source = 0x400; destination = 0x100; from = None; to = Some 1 }

-- the changer's device by the mark at its drive, and by what 0400h and 0401h hold
abbrev pub device_by : (mark : Option VolumeTag) → (first second : Option Volume) → DeviceView
device_by mark first second = library (mark ∷ []) first second

-- before the move, and after it
abbrev pub before : DeviceView
before = device_by None (Some (volume first_tag)) None

abbrev pub after : DeviceView
after = device_by (Some first_tag) None None

-- A first record of an event at a unit; the cell of a move, where nothing is reserved
abbrev pub move_cell : Cell
move_cell = record { class = class.MoveMedium; res_type = restype.None; role = Other }

abbrev pub entry : Option Nexus → Act → Option Cell → Record
entry n asked at = record { number = 1; nexus = n; act = asked; stage = stage.Device; cell = at; rule = None; status = Good; sense = None; told = None }

-- the changer with a device and the record of A's move, and the drive with a volume and the record of its coming, of which A and B will be told
abbrev pub changer_with : DeviceView → UnitView
changer_with device =
    record (changer_of device) { records = entry (Some a) (act.Command class.MoveMedium) (Some move_cell) ∷ [] }

abbrev pub drive_with : VolumeTag → UnitView
drive_with tag = let u = full_drive 1 tag in record u {
  state = record u.state { slots = (a, MediumChanged ∷ []) ∷ (b, MediumChanged ∷ []) ∷ [] };
  records = entry None act.MediumIn None ∷ [];
}

-- the target with 0400h full, and after the move
abbrev pub at_first : List UnitView
at_first = changer_of before ∷ empty_drive 1 ∷ []

abbrev pub moved : List UnitView
moved = changer_with after ∷ drive_with first_tag ∷ []

-- what is served as A's move with GOOD, and what goes inward
abbrev pub IsServedSo : (after : List UnitView) → Type 0
IsServedSo us = IsServed power_on at_first us 0 a (move slot_1 drive_1) [] (good_with 1)

abbrev pub GoesInward : (after : List UnitView) → DeviceView → Type 0
GoesInward us device = GoesBy at_first us before device inward

pub record VolumeGoes : Type 0 where
  pub goes : GoesInward moved after
  pub served : IsServedSo moved
  -- so the drive may have changed by it
  pub drive : IsMovedAt at_first moved 0 (changer_of before) (changer_with after) (move slot_1 drive_1) (good_with 1) 1

-- another volume comes to the drive, or none; the volume stays at its source too; another comes to 0401h; the mark is another's, or none; or
-- the volume comes out of 0401h
pub record VolumeDoesNotGo : Type 0 where
  pub other_volume : ¬ GoesInward (changer_with after ∷ drive_with second_tag ∷ []) after
  pub nowhere : ¬ GoesInward (changer_with after ∷ empty_drive 1 ∷ []) after
  pub stays_too : ¬ GoesInward moved (device_by (Some first_tag) (Some (volume first_tag)) None)
  pub another_comes : ¬ GoesInward moved (device_by (Some first_tag) None (Some (volume second_tag)))
  pub other_mark : ¬ GoesInward moved (device_by (Some second_tag) None None)
  pub no_mark : ¬ GoesInward moved (device_by None None None)
  pub other_source : ¬ GoesBy at_first moved before after (record inward { source = 0x401 })

-- so none of these is served as that move
pub record MoveIsNotServed : Type 0 where
  pub other_volume : ¬ IsServedSo (changer_with after ∷ drive_with second_tag ∷ [])
  pub nowhere : ¬ IsServedSo (changer_with after ∷ empty_drive 1 ∷ [])
  pub stays_too : ¬ IsServedSo (changer_with (device_by (Some first_tag) (Some (volume first_tag)) None) ∷ drive_with first_tag ∷ [])
  pub another_comes : ¬ IsServedSo (changer_with (device_by (Some first_tag) None (Some (volume second_tag))) ∷ drive_with first_tag ∷ [])

-- B's move out of that drive, where somebody prevents removal there
abbrev pub prevented : List UnitView
prevented = changer_of after ∷ drive_prevented first_tag ∷ []

-- CHECK CONDITION by the sense, from a changer to which nothing has happened but that
abbrev pub sense : (key asc ascq : ℕ) → Sense
sense key asc ascq = record { valid = false; filemark = false; eom = false; ili = false; key = key; information = 0; asc = asc; ascq = ascq }

abbrev pub checked : Sense → Reply
checked reported = record { status = CheckCondition; sense = Some reported; payload = []; number = 1 }

abbrev pub changer_checking : Nexus → DeviceView → Sense → UnitView
changer_checking n device reported =
    record (changer_of device) { records = record (entry (Some n) (act.Command class.MoveMedium) (Some move_cell)) { status = CheckCondition; sense = Some reported } ∷ [] }

-- it is CHECK CONDITION, 53h/02h, and nothing has moved; and so it is served with no other sense, nor where the volume can go
pub record MoveStops : Type 0 where
  pub served : IsServed power_on prevented (changer_checking b after (sense 5 0x53 0x02) ∷ drive_prevented first_tag ∷ []) 0 b (move drive_1 slot_2) [] (checked (sense 5 0x53 0x02))
  pub other_sense : ¬ IsServed power_on prevented (changer_checking b after (sense 4 0x44 0x00) ∷ drive_prevented first_tag ∷ []) 0 b (move drive_1 slot_2) [] (checked (sense 4 0x44 0x00))
  pub for_nothing : ¬ IsServed power_on at_first (changer_checking a before (sense 4 0x44 0x00) ∷ empty_drive 1 ∷ []) 0 a (move slot_1 drive_1) [] (checked (sense 4 0x44 0x00))
  -- of other drives 44h/00h is told, and of one that would take the volume in
  pub free : stop_of (changer_of after ∷ full_drive 1 second_tag ∷ []) (Some 1) None ≡ InternalTargetFailure
  pub inward : stop_of prevented None (Some 1) ≡ InternalTargetFailure

-- nor does a drive change by anything but that move: another command, one that isn't GOOD, one to a drive; and no other drive changes
abbrev pub MovedBy : (lun : ℕ) → (cdb : List ℕ) → Reply → (drive : ℕ) → Type 0
MovedBy lun cdb r drive = IsMovedAt at_first moved lun (changer_of before) (changer_with after) cdb r drive

pub record NoDriveMoves : Type 0 where
  pub other_command : ¬ MovedBy 0 test_unit_ready (good_with 1) 1
  pub not_good : ¬ MovedBy 0 (move slot_1 drive_1) not_supported 1
  pub at_a_drive : ¬ MovedBy 1 (move slot_1 drive_1) (good_with 1) 1
  pub other_drive : ¬ MovedBy 0 (move slot_1 drive_1) (good_with 1) 2
