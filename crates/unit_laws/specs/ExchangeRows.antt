-- Worked rows: EXCHANGE MEDIUM (SMC-3, "EXCHANGE MEDIUM command") at a changer of the hosts' profile, LUN 0, with a drive at 0100h and the storage
-- elements 0400h, 0401h and 0402h, and that drive, LUN 1. The first volume is in 0400h; the second is in the drive, which it came to from 0401h.
-- A and B had contact with both; nobody is registered at the changer, but where a row says so.
use Rattle.std.specs.Prelude.{◌≡◌, ℕ, Bool, true, false, List, [], ◌∷◌, Option, Some, None}
use Rattle.scsi_cdb.specs.declared.kind.Kind.TheVariants.{Changer as of_changer}
use Rattle.scsi_cdb.specs.declared.profile.Profile.TheVariants.{Spec, Hosts}
use Rattle.scsi_cdb.specs.Kinds.{commands}
use Rattle.scsi_cdb.specs.declared.classes.Class.TheVariants as class
use Rattle.scsi_nexus.specs.declared.nexus.Nexus.{Nexus}
use Rattle.scsi_sense.specs.declared.status.Status.{Status}
use Rattle.scsi_sense.specs.declared.status.Status.TheVariants.{Good, CheckCondition, ReservationConflict}
use Rattle.unit_attention.specs.declared.kind.Kind.TheVariants.{MediumChanged}
use Rattle.permit_tables.specs.declared.res_type.ResType.TheVariants as restype
use Rattle.permit_tables.specs.declared.res_type.ResType.TheVariants.{Ea}
use Rattle.permit_tables.specs.declared.role.Role.TheVariants.{Other}
use Rattle.pr_core.specs.State.{State, power_on}
use Rattle.tape_medium.specs.declared.volume.Volume.{Volume}
use Rattle.tape_medium.specs.declared.volume.VolumeTag.{VolumeTag}
use Rattle.audit_log.specs.declared.act.Act.TheVariants as act
use Rattle.audit_log.specs.declared.stage.Stage.TheVariants.{Device, ReservationCheck}
use Rattle.device_server.specs.HostChanger.{host_view}
use Rattle.device_server.specs.HostChangerRows.{changer_identity, library}
use Rattle.device_server.specs.HostRows.{fresh}
use Rattle.device_server.specs.View.{DeviceView, Drive, Changer}
use Rattle.judgement.specs.declared.reply.Reply.{Reply}
use Rattle.judgement.specs.UnitStateView.{UnitStateView}
use Rattle.logical_unit.specs.Move.{moved_one, numbers_of}
use Rattle.logical_unit.specs.Route.{named}
use Rattle.logical_unit.specs.Step.{answered}
use Rattle.logical_unit.specs.UnitView.{UnitView}
use Rattle.logical_unit.specs.VolumeAfter.{given_end, volume_after}
use Rattle.unit_laws.specs.MoveRows.{first_tag, second_tag, drive_1, drive_2, slot_1, slot_2, told, acts}
use Rattle.unit_laws.specs.Rows.{a, b, held, slots_with, volume, unit_with, Answer, sense_with}

-- EXCHANGE MEDIUM by the two bytes of its source, of its first and of its second destination
abbrev pub exchange : (source first second : ℕ × ℕ) → List ℕ
exchange source first second =
    0xA6 ∷ 0 ∷ 0 ∷ 0 ∷ source.0 ∷ source.1 ∷ first.0 ∷ first.1 ∷ second.0 ∷ second.1 ∷ 0 ∷ 0 ∷ []

abbrev pub slot_3 : ℕ × ℕ
slot_3 = (0x04, 0x02)

-- the drive that a CDB names, if it is one alone; only the hosts' profile has the command
pub record NamedByExchanges : Type 0 where
  pub first : named (commands Hosts of_changer) 1 (exchange slot_1 drive_1 slot_3) ≡ 1 ∷ []
  pub swap : named (commands Hosts of_changer) 1 (exchange slot_1 drive_1 slot_1) ≡ 1 ∷ []
  pub source : named (commands Hosts of_changer) 1 (exchange drive_1 slot_1 slot_2) ≡ 1 ∷ []
  pub second : named (commands Hosts of_changer) 1 (exchange slot_1 slot_2 drive_1) ≡ 1 ∷ []
  pub source_and_second : named (commands Hosts of_changer) 2 (exchange drive_2 slot_1 drive_2) ≡ 2 ∷ []
  pub none : named (commands Hosts of_changer) 1 (exchange slot_1 slot_2 slot_3) ≡ []
  pub two_neighbours : named (commands Hosts of_changer) 2 (exchange drive_1 drive_2 slot_1) ≡ []
  pub two_apart : named (commands Hosts of_changer) 2 (exchange drive_2 slot_1 drive_1) ≡ []
  pub no_such_drive : named (commands Hosts of_changer) 1 (exchange slot_1 drive_2 slot_2) ≡ []
  pub default_profile : named (commands Spec of_changer) 1 (exchange slot_1 drive_1 slot_3) ≡ []

-- where the volume ends that a drive gives, which is at the first destination or at the source; where none gives one, the first destination
pub record GivenEnds : Type 0 where
  pub from_first : given_end (record { source = 0x400; first = 0x100; second = 0x402; from = None; between = Some 1; to = None }) ≡ 0x402
  pub from_source : given_end (record { source = 0x100; first = 0x400; second = 0x401; from = Some 1; between = None; to = None }) ≡ 0x400
  pub from_source_and_back : given_end (record { source = 0x100; first = 0x400; second = 0x100; from = Some 1; between = None; to = Some 1 }) ≡ 0x400
  pub into_second : given_end (record { source = 0x400; first = 0x401; second = 0x100; from = None; between = None; to = Some 1 }) ≡ 0x401
  pub no_drive : given_end (record { source = 0x400; first = 0x401; second = 0x402; from = None; between = None; to = None }) ≡ 0x401

-- what a unit of the hosts' profile keeps, at which nothing waits for A and B
abbrev pub kept : (lun : ℕ) → State → List Nexus → UnitStateView
kept lun reservations preventers = record { lun = lun; units = 2; profile = Hosts; reservations = reservations; slots = slots_with []; preventers = preventers }

abbrev pub changer_of : DeviceView → UnitView
changer_of device = unit_with device (kept 0 power_on [])

-- the drive with a volume that is loaded, and with none
abbrev pub drive_with : Option Volume → (loaded : Bool) → DeviceView
drive_with bay loaded = Drive (record { bay = bay; loaded = loaded; block_length = 0; hosts = Some fresh })

abbrev pub full_with : VolumeTag → DeviceView
full_with tag = drive_with (Some (volume tag)) true

abbrev pub drive_of : DeviceView → UnitView
drive_of device = unit_with device (kept 1 power_on [])

-- before the exchanges
abbrev pub stocked : DeviceView
stocked = library (Some second_tag) (Some (volume first_tag)) None None (Some 0x401) None None None

-- what is told where the changer was asked, at which nothing is reserved: the stage is the device's
abbrev pub tells : Status → (sense : List ℕ) → Option Answer
tells status sense =
    Some (record { status = status; sense = sense; payload = []; stage = Device; cell = Some (record { class = class.ExchangeMedium; res_type = restype.None; role = Other }); rule = None })

abbrev pub checks : (key asc ascq : ℕ) → Option Answer
checks key asc ascq = tells CheckCondition (sense_with key asc ascq)

-- A exchanges volumes with the drive, which is not asked for its reservation
abbrev pub exchanged : (source first second : ℕ × ℕ) → (UnitView × Reply) × UnitView
exchanged source first second = moved_one (changer_of stocked) (unit_with (full_with second_tag) (kept 1 held [])) a (exchange source first second) []

-- the drive at the first destination gives the second volume, to 0402h, and takes the first: of each it has a record, and each nexus that had contact
-- with it will be told once
abbrev pub through : (UnitView × Reply) × UnitView
through = exchanged slot_1 drive_1 slot_3

pub record ThroughADrive : Type 0 where
  pub told : told through.0 ≡ tells Good []
  pub asked : acts through.0.0 ≡ act.Command class.ExchangeMedium ∷ []
  pub changer : through.0.0.device ≡ library (Some first_tag) None None (Some (volume second_tag)) (Some 0x400) None None (Some 0x401)
  pub drive : through.1.device ≡ full_with first_tag
  pub went_and_came : acts through.1 ≡ act.MediumOut ∷ act.MediumIn ∷ []
  pub numbers : numbers_of (drive_of (full_with second_tag)) through.1 ≡ (1, 1) ∷ (1, 2) ∷ []
  pub waits : through.1.state.slots ≡ (a, MediumChanged ∷ []) ∷ (b, MediumChanged ∷ []) ∷ []
  pub reservation : through.1.state.reservations ≡ held
  pub gave : volume_after through.0.0.device (exchange slot_1 drive_1 slot_3) ≡ Some second_tag

-- a swap: storage element 0400h is the source and the second destination
abbrev pub swapped : (UnitView × Reply) × UnitView
swapped = exchanged slot_1 drive_1 slot_1

-- the same, named from the drive
abbrev pub swapped_back : (UnitView × Reply) × UnitView
swapped_back = exchanged drive_1 slot_1 drive_1

pub record SwappedWithADrive : Type 0 where
  pub told : told swapped.0 ≡ tells Good []
  pub changer : swapped.0.0.device ≡ library (Some first_tag) (Some (volume second_tag)) None None (Some 0x400) (Some 0x401) None None
  pub drive : swapped.1.device ≡ full_with first_tag
  pub went_and_came : acts swapped.1 ≡ act.MediumOut ∷ act.MediumIn ∷ []
  pub gave : volume_after swapped.0.0.device (exchange slot_1 drive_1 slot_1) ≡ Some second_tag
  pub back_changer : swapped_back.0.0.device ≡ swapped.0.0.device
  pub back_drive : swapped_back.1 ≡ swapped.1
  pub back_gave : volume_after swapped_back.0.0.device (exchange drive_1 slot_1 drive_1) ≡ Some second_tag

-- the drive at the source gives its volume alone
abbrev pub out_of : (UnitView × Reply) × UnitView
out_of = exchanged drive_1 slot_1 slot_2

pub record OutOfADrive : Type 0 where
  pub told : told out_of.0 ≡ tells Good []
  pub changer : out_of.0.0.device ≡ library None (Some (volume second_tag)) (Some (volume first_tag)) None None (Some 0x401) (Some 0x400) None
  pub drive : out_of.1.device ≡ drive_with None false
  pub went : acts out_of.1 ≡ act.MediumOut ∷ []
  pub waits : out_of.1.state.slots ≡ slots_with []
  pub gave : volume_after out_of.0.0.device (exchange drive_1 slot_1 slot_2) ≡ Some second_tag

-- the drive at the second destination takes a volume alone
abbrev pub into : (UnitView × Reply) × UnitView
into =
    moved_one (changer_of (library None (Some (volume first_tag)) (Some (volume second_tag)) None None None None None)) (drive_of (drive_with None false)) a (exchange slot_1 slot_2 drive_1) []

pub record IntoADriveBehind : Type 0 where
  pub told : told into.0 ≡ tells Good []
  pub changer : into.0.0.device ≡ library (Some second_tag) None (Some (volume first_tag)) None (Some 0x401) None (Some 0x400) None
  pub drive : into.1.device ≡ full_with second_tag
  pub came : acts into.1 ≡ act.MediumIn ∷ []
  pub gave : volume_after into.0.0.device (exchange slot_1 slot_2 drive_1) ≡ Some first_tag

-- an exchange that is refused: what is told, and that no volume has moved; the changer has its record, and the drive none
pub record IsRefused (c d : UnitView) (source first second : ℕ × ℕ) (due : Option Answer) : Type 0 where
  pub told : told (moved_one c d b (exchange source first second) []).0 ≡ due
  pub changer : (moved_one c d b (exchange source first second) []).0.0.device ≡ c.device
  pub drive : (moved_one c d b (exchange source first second) []).1 ≡ d

-- somebody prevents removal at the drive, which is asked where the changer refuses nothing; its bay has another volume than the mark says, or
-- none; the source is empty; the first destination is; the second is full, and isn't the source; the changer is held
pub record RefusedExchanges : Type 0 where
  pub prevented : IsRefused (changer_of stocked) (unit_with (full_with second_tag) (kept 1 power_on (a ∷ []))) slot_1 drive_1 slot_3 (checks 5 0x53 0x02)
  pub prevented_at_the_source : IsRefused (changer_of stocked) (unit_with (full_with second_tag) (kept 1 power_on (a ∷ []))) drive_1 slot_1 slot_2 (checks 5 0x53 0x02)
  pub other_volume : IsRefused (changer_of stocked) (drive_of (full_with first_tag)) slot_1 drive_1 slot_3 (checks 4 0x44 0)
  pub bay_empty : IsRefused (changer_of stocked) (drive_of (drive_with None false)) slot_1 drive_1 slot_3 (checks 4 0x44 0)
  pub source_empty : IsRefused (changer_of stocked) (unit_with (full_with second_tag) (kept 1 power_on (a ∷ []))) slot_2 drive_1 slot_3 (checks 5 0x3B 0x0E)
  pub first_empty : IsRefused (changer_of (library None (Some (volume first_tag)) None None None None None None)) (drive_of (drive_with None false)) slot_1 drive_1 slot_3 (checks 5 0x3B 0x0E)
  pub second_full : IsRefused (changer_of (library (Some second_tag) (Some (volume first_tag)) (Some (volume first_tag)) None None None None None)) (drive_of (full_with second_tag)) slot_1 drive_1 slot_2
      (checks 5 0x3B 0x0D)
  pub at_a_held_changer : IsRefused (unit_with stocked (kept 0 held [])) (drive_of (full_with second_tag)) slot_1 drive_1 slot_3
      (Some (record { status = ReservationConflict; sense = []; payload = []; stage = ReservationCheck; cell = Some (record { class = class.ExchangeMedium; res_type = Ea; role = Other }); rule = None }))

-- a changer with two drives, both full, and a storage element
abbrev pub two_drives : DeviceView
two_drives =
    Changer (host_view
    (record { data_transfer = Some first_tag ∷ Some second_tag ∷ []; import_export = []; storage = None ∷ [] })
    (record { identity = changer_identity; sources = record { data_transfer = None ∷ None ∷ []; import_export = []; storage = None ∷ [] } }))

-- no volume goes from a drive to another by this command, and the changer says so alone
abbrev pub between_drives : UnitView × Reply
between_drives = answered (changer_of two_drives) a (exchange drive_1 drive_2 drive_1) []

pub record BetweenTwoDrives : Type 0 where
  pub told : told between_drives ≡ checks 5 0x21 0x01
  pub changer : between_drives.0.device ≡ two_drives
