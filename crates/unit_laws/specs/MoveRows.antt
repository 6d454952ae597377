-- Worked rows: MOVE MEDIUM between a changer at LUN 0, with one drive at 0100h and storage elements 0400h and 0401h, and that drive, LUN 1.
-- A and B had contact with both; nobody is registered at the changer, but where a row says so.
use Rattle.std.specs.Prelude.{◌≡◌, ℕ, Bool, true, false, List, [], ◌∷◌, map, replicate, Option, Some, None}
use Rattle.scsi_cdb.specs.declared.kind.Kind.TheVariants.{Changer}
use Rattle.scsi_cdb.specs.declared.profile.Profile.TheVariants.{Spec}
use Rattle.scsi_cdb.specs.Kinds.{commands}
use Rattle.scsi_cdb.specs.declared.classes.Class.TheVariants as class
use Rattle.scsi_cdb.specs.declared.request.Request.TheVariants as request
use Rattle.scsi_nexus.specs.declared.nexus.Nexus.{Nexus}
use Rattle.scsi_sense.specs.declared.status.Status.{Status}
use Rattle.scsi_sense.specs.declared.status.Status.TheVariants.{Good, CheckCondition, ReservationConflict}
use Rattle.unit_attention.specs.declared.kind.Kind.TheVariants.{MediumChanged}
use Rattle.permit_tables.specs.declared.res_type.ResType.TheVariants as restype
use Rattle.permit_tables.specs.declared.res_type.ResType.TheVariants.{Ea}
use Rattle.permit_tables.specs.declared.role.Role.TheVariants.{Other}
use Rattle.pr_core.specs.State.{power_on}
use Rattle.tape_medium.specs.declared.volume.Volume.{Volume}
use Rattle.tape_medium.specs.declared.volume.VolumeTag.{VolumeTag}
use Rattle.audit_log.specs.declared.act.Act.{Act}
use Rattle.audit_log.specs.declared.act.Act.TheVariants as act
use Rattle.audit_log.specs.declared.stage.Stage.TheVariants.{Device, ReservationCheck}
use Rattle.device_server.specs.HostChanger.{spec_changer}
use Rattle.device_server.specs.View.{DeviceView, Changer}
use Rattle.judgement.specs.declared.reply.Reply.{Reply}
use Rattle.judgement.specs.declared.command.Command.TheVariants.{Prevent}
use Rattle.judgement.specs.declared.command.Command.TheVariants as command
use Rattle.judgement.specs.UnitStateView.{UnitStateView}
use Rattle.judgement.specs.Judge.{asks_memory}
use Rattle.logical_unit.specs.Move.{TwoDrives, judged_at, errand_at, carried_one, is_carried, moved_one, moved_two, numbers_of}
use Rattle.logical_unit.specs.Route.{named}
use Rattle.unit_laws.specs.Rows.{a, b, held, slots_with, volume, drive_of, unit_with, drive_held, drive_prevented, Answer, answer_with, sense_with}
use Rattle.logical_unit.specs.UnitView.{UnitView}

-- VTL001L8 and VTL002L8, then spaces
abbrev pub first_tag : VolumeTag
first_tag = record { 0 = 0x56 ∷ 0x54 ∷ 0x4C ∷ 0x30 ∷ 0x30 ∷ 0x31 ∷ 0x4C ∷ 0x38 ∷ replicate 24 0x20 }

abbrev pub second_tag : VolumeTag
second_tag = record { 0 = 0x56 ∷ 0x54 ∷ 0x4C ∷ 0x30 ∷ 0x30 ∷ 0x32 ∷ 0x4C ∷ 0x38 ∷ replicate 24 0x20 }

-- MOVE MEDIUM by the two bytes of its source and those of its destination
abbrev pub move : (source destination : ℕ × ℕ) → List ℕ
move source destination = 0xA5 ∷ 0 ∷ 0 ∷ 0 ∷ source.0 ∷ source.1 ∷ destination.0 ∷ destination.1 ∷ 0 ∷ 0 ∷ 0 ∷ 0 ∷ []

-- the drives at 0100h and 0101h, and the storage elements 0400h and 0401h
abbrev pub drive_1 : ℕ × ℕ
drive_1 = (0x01, 0x00)

abbrev pub drive_2 : ℕ × ℕ
drive_2 = (0x01, 0x01)

abbrev pub slot_1 : ℕ × ℕ
slot_1 = (0x04, 0x00)

abbrev pub slot_2 : ℕ × ℕ
slot_2 = (0x04, 0x01)

-- the drives that CDBs name, rising, each once
pub record NamedDrives : Type 0 where
  pub into : named (commands Spec Changer) 1 (move slot_1 drive_1) ≡ 1 ∷ []
  pub out_of : named (commands Spec Changer) 1 (move drive_1 slot_1) ≡ 1 ∷ []
  pub neither : named (commands Spec Changer) 1 (move slot_1 slot_2) ≡ []
  pub upward : named (commands Spec Changer) 2 (move drive_1 drive_2) ≡ 1 ∷ 2 ∷ []
  pub downward : named (commands Spec Changer) 2 (move drive_2 drive_1) ≡ 1 ∷ 2 ∷ []
  pub onto_itself : named (commands Spec Changer) 2 (move drive_2 drive_2) ≡ 2 ∷ []
  pub no_such_drive : named (commands Spec Changer) 1 (move slot_1 drive_2) ≡ []
  pub test_unit_ready : named (commands Spec Changer) 1 (replicate 6 0) ≡ []
  pub cut_short : named (commands Spec Changer) 1 (0xA5 ∷ 0 ∷ 0 ∷ 0 ∷ 0x04 ∷ 0x00 ∷ 0x01 ∷ 0x00 ∷ []) ≡ []

-- a changer by the marks at its drives and what its storage elements hold
abbrev pub library : List (Option VolumeTag) → (first second : Option Volume) → DeviceView
library marks first second = Changer (spec_changer (record { data_transfer = marks; import_export = []; storage = first ∷ second ∷ [] }))

-- what a unit keeps at which nobody is registered, and nothing waits for A and B
abbrev pub kept_free : (lun : ℕ) → UnitStateView
kept_free lun = record { lun = lun; units = 2; profile = Spec; reservations = power_on; slots = slots_with []; preventers = [] }

abbrev pub changer_of : DeviceView → UnitView
changer_of device = unit_with device (kept_free 0)

abbrev pub empty_drive : (lun : ℕ) → UnitView
empty_drive lun = unit_with (drive_of None false) (kept_free lun)

abbrev pub full_drive : (lun : ℕ) → VolumeTag → UnitView
full_drive lun tag = unit_with (drive_of (Some (volume tag)) true) (kept_free lun)

-- what the host gets and the changer's one record says, and what each unit's records are of
abbrev pub told : UnitView × Reply → Option Answer
told it = answer_with it.1 it.0.records

abbrev pub acts : UnitView → List Act
acts u = map (λ e. e.act) u.records

-- what is told once the changer was asked, at which nothing is reserved: the stage is the device's
abbrev pub tells : Status → (sense : List ℕ) → Option Answer
tells status sense =
    Some (record { status = status; sense = sense; payload = []; stage = Device; cell = Some (record { class = class.MoveMedium; res_type = restype.None; role = Other }); rule = None })

abbrev pub moves : Option Answer
moves = tells Good []

abbrev pub checks : (key asc ascq : ℕ) → Option Answer
checks key asc ascq = tells CheckCondition (sense_with key asc ascq)

-- A moves the volume in 0400h into the drive: the drive is loaded, and each nexus that had contact with it will be told
abbrev pub loaded : (UnitView × Reply) × UnitView
loaded = moved_one (changer_of (library (None ∷ []) (Some (volume first_tag)) None)) (empty_drive 1) a (move slot_1 drive_1) []

pub record IntoADrive : Type 0 where
  pub told : told loaded.0 ≡ moves
  pub asked : acts loaded.0.0 ≡ act.Command class.MoveMedium ∷ []
  pub changer : loaded.0.0.device ≡ library (Some first_tag ∷ []) None None
  pub drive : loaded.1.device ≡ drive_of (Some (volume first_tag)) true
  pub came : acts loaded.1 ≡ act.MediumIn ∷ []
  pub waits : loaded.1.state.slots ≡ (a, MediumChanged ∷ []) ∷ (b, MediumChanged ∷ []) ∷ []

-- B moves the volume of a drive into 0401h while A holds Exclusive Access there: a drive's reservation isn't asked, and stays
abbrev pub unloaded : (UnitView × Reply) × UnitView
unloaded = moved_one (changer_of (library (Some first_tag ∷ []) None None)) (drive_held first_tag) b (move drive_1 slot_2) []

pub record OutOfAReservedDrive : Type 0 where
  pub told : told unloaded.0 ≡ moves
  pub changer : unloaded.0.0.device ≡ library (None ∷ []) None (Some (volume first_tag))
  pub drive : unloaded.1.device ≡ drive_of None false
  pub went : acts unloaded.1 ≡ act.MediumOut ∷ []
  pub reservation : unloaded.1.state.reservations ≡ held
  pub waits : unloaded.1.state.slots ≡ slots_with []

-- a move that is refused: what is told, and that no volume has moved; the changer has its record, and the drive none
pub record IsRefused (n : Nexus) (c d : UnitView) (source destination : ℕ × ℕ) (due : Option Answer) : Type 0 where
  pub told : told (moved_one c d n (move source destination) []).0 ≡ due
  pub changer : (moved_one c d n (move source destination) []).0.0.device ≡ c.device
  pub drive : (moved_one c d n (move source destination) []).1 ≡ d

-- somebody prevents removal at the drive; its bay is empty or has another volume than the mark says, or has one where the mark says none;
-- the destination is full
pub record RefusedMoves : Type 0 where
  pub prevented : IsRefused b (changer_of (library (Some first_tag ∷ []) None None)) (drive_prevented first_tag) drive_1 slot_2 (checks 5 0x53 0x02)
  pub prevented_first : IsRefused a (changer_of (library (Some second_tag ∷ []) None None)) (drive_prevented first_tag) drive_1 slot_2 (checks 5 0x53 0x02)
  pub bay_empty : IsRefused a (changer_of (library (Some first_tag ∷ []) None None)) (empty_drive 1) drive_1 slot_2 (checks 4 0x44 0)
  pub other_volume : IsRefused a (changer_of (library (Some first_tag ∷ []) None None)) (full_drive 1 second_tag) drive_1 slot_2 (checks 4 0x44 0)
  pub bay_full : IsRefused a (changer_of (library (None ∷ []) (Some (volume first_tag)) None)) (full_drive 1 second_tag) slot_1 drive_1 (checks 4 0x44 0)
  pub element_full : IsRefused a (changer_of (library (Some first_tag ∷ []) (Some (volume second_tag)) None)) (full_drive 1 first_tag) drive_1 slot_1 (checks 5 0x3B 0x0D)

-- whether a move with one drive carries its volume
abbrev pub carries : (c d : UnitView) → (source destination : ℕ × ℕ) → Nexus → Bool
carries c d source destination n =
    let cdb = move source destination in is_carried (judged_at c n cdb []) (carried_one c.device d (errand_at c cdb))

-- it does where nothing refuses it, at the changer or at the drive
pub record CarriedOrNot : Type 0 where
  pub into : carries (changer_of (library (None ∷ []) (Some (volume first_tag)) None)) (empty_drive 1) slot_1 drive_1 a ≡ true
  pub out_of : carries (changer_of (library (Some first_tag ∷ []) None None)) (drive_held first_tag) drive_1 slot_2 b ≡ true
  pub prevented : carries (changer_of (library (Some first_tag ∷ []) None None)) (drive_prevented first_tag) drive_1 slot_2 b ≡ false
  pub of_nothing : carries (changer_of (library (None ∷ []) None None)) (empty_drive 1) slot_1 drive_1 a ≡ false
  pub at_a_held_changer : carries (unit_with (library (Some first_tag ∷ []) None None) (record (kept_free 0) { reservations = held })) (full_drive 1 first_tag) drive_1 slot_1 b ≡ false

-- of the device's commands just MOVE MEDIUM takes no memory
pub record MemoryOfCommands : Type 0 where
  pub move : asks_memory (command.Device (request.MoveMedium 0 0x400 0x100 false)) ≡ false
  pub ready : asks_memory (command.Device request.TestUnitReady) ≡ true
  pub prevent : asks_memory (Prevent 1) ≡ false

-- B's move where A holds Exclusive Access on the changer
pub record AtAHeldChanger : Type 0 where
  pub other : IsRefused b (unit_with (library (Some first_tag ∷ []) None None) (record (kept_free 0) { reservations = held })) (full_drive 1 first_tag) drive_1 slot_1
      (Some (record { status = ReservationConflict; sense = []; payload = []; stage = ReservationCheck; cell = Some (record { class = class.MoveMedium; res_type = Ea; role = Other }); rule = None }))

-- from the drive of LUN 1 to that of LUN 2, and back
abbrev pub upward : (UnitView × Reply) × TwoDrives
upward = moved_two (changer_of (library (Some first_tag ∷ None ∷ []) None None)) (record { low = full_drive 1 first_tag; high = empty_drive 2 }) a (move drive_1 drive_2) []

abbrev pub downward : (UnitView × Reply) × TwoDrives
downward = moved_two (changer_of (library (None ∷ Some first_tag ∷ []) None None)) (record { low = empty_drive 1; high = full_drive 2 first_tag }) a (move drive_2 drive_1) []

pub record BetweenDrives : Type 0 where
  pub up_told : told upward.0 ≡ moves
  pub up_changer : upward.0.0.device ≡ library (None ∷ Some first_tag ∷ []) None None
  pub up_low : upward.1.low.device ≡ drive_of None false
  pub up_high : upward.1.high.device ≡ drive_of (Some (volume first_tag)) true
  pub up_went : acts upward.1.low ≡ act.MediumOut ∷ []
  pub up_came : acts upward.1.high ≡ act.MediumIn ∷ []
  pub down_told : told downward.0 ≡ moves
  pub down_changer : downward.0.0.device ≡ library (Some first_tag ∷ None ∷ []) None None
  pub down_low : downward.1.low.device ≡ drive_of (Some (volume first_tag)) true
  pub down_high : downward.1.high.device ≡ drive_of None false

-- the records that units have more
pub record NumbersOfRecords : Type 0 where
  pub changer : numbers_of (changer_of (library (None ∷ []) (Some (volume first_tag)) None)) loaded.0.0 ≡ (0, 1) ∷ []
  pub drive : numbers_of (empty_drive 1) loaded.1 ≡ (1, 1) ∷ []
  pub none : numbers_of (empty_drive 1) (empty_drive 1) ≡ []
  pub after_others : numbers_of (record (empty_drive 2) { base = record { state = kept_free 2; last = 6 } }) (record loaded.1 { base = record { state = kept_free 2; last = 6 } }) ≡ (2, 7) ∷ []
