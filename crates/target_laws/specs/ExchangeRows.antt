-- Worked rows of an exchange with a drive, in a target of the hosts' profile: the volume in 0400h goes into the drive at 0100h, LUN 1, and that drive's
-- volume to 0402h. Which volumes go, and that no other moves; what isn't such an exchange; and what is reported where none can go.
use Rattle.std.specs.Prelude.{◌≡◌, ℕ, false, List, [], ◌∷◌, Option, Some, None}
use Rattle.scsi_cdb.specs.declared.classes.Class.TheVariants as class
use Rattle.scsi_cdb.specs.declared.kind.Kind.TheVariants.{Changer as of_changer}
use Rattle.scsi_cdb.specs.declared.profile.Profile.TheVariants.{Spec, Hosts}
use Rattle.scsi_cdb.specs.Kinds.{commands}
use Rattle.permit_tables.specs.declared.cell.Cell.{Cell}
use Rattle.permit_tables.specs.declared.res_type.ResType.TheVariants as restype
use Rattle.permit_tables.specs.declared.role.Role.TheVariants.{Other}
use Rattle.scsi_sense.specs.declared.sense.Sense.{Sense}
use Rattle.scsi_sense.specs.declared.status.Status.TheVariants.{CheckCondition}
use Rattle.unit_attention.specs.declared.kind.Kind.TheVariants.{MediumChanged}
use Rattle.pr_core.specs.State.{power_on}
use Rattle.tape_medium.specs.declared.volume.Volume.{Volume}
use Rattle.tape_medium.specs.declared.volume.VolumeTag.{VolumeTag}
use Rattle.audit_log.specs.declared.act.Act.TheVariants as act
use Rattle.device_server.specs.HostChangerRows.{library}
use Rattle.device_server.specs.View.{DeviceView}
use Rattle.judgement.specs.Commands.{decoded_command}
use Rattle.logical_unit.specs.UnitView.{UnitView}
use Rattle.logical_unit.specs.declared.route.ExchangeRoute.{ExchangeRoute}
use Rattle.unit_laws.specs.ExchangeRows.{exchange, slot_3, kept, changer_of, drive_of, drive_with, full_with, stocked}
use Rattle.unit_laws.specs.MoveRows.{first_tag, second_tag, drive_1, slot_1}
use Rattle.unit_laws.specs.Rows.{a, b, volume, unit_with}
use Rattle.target_core.specs.Faults.{fault_of}
use Rattle.target_laws.specs.Cartridges.{cartridges}
use Rattle.target_laws.specs.CarriedRows.{entry, sense, checked}
use Rattle.target_laws.specs.Headline.{Crosses, IsMovedAt, IsServed}
use Rattle.target_laws.specs.LibraryRows.{cartridge}
use Rattle.target_laws.specs.Rows.{good_with}
use Rattle.target_laws.specs.Volumes.{way_of, Exchanged, volume_in, AreExchanged}

-- the way of the exchange
abbrev pub outward : ExchangeRoute
outward = record { source = 0x400; first = 0x100; second = 0x402; from = None; between = Some 1; to = None }

abbrev pub asked : List ℕ
asked = exchange slot_1 drive_1 slot_3

-- the changer's device after it: the first volume came to the drive from 0400h, and the second to 0402h, which was in 0401h before the drive
abbrev pub after : DeviceView
after = library (Some first_tag) None None (Some (volume second_tag)) (Some 0x400) None None (Some 0x401)

-- the changer with a device and the record of A's exchange, and the drive with a volume and the records of what went and came, of which A and B
-- will be told
abbrev pub cell : Cell
cell = record { class = class.ExchangeMedium; res_type = restype.None; role = Other }

abbrev pub changer_with : DeviceView → UnitView
changer_with device =
    record (changer_of device) { records = entry (Some a) (act.Command class.ExchangeMedium) (Some cell) ∷ [] }

abbrev pub drive_after : VolumeTag → UnitView
drive_after tag = let u = drive_of (full_with tag) in record u {
  state = record u.state { slots = (a, MediumChanged ∷ []) ∷ (b, MediumChanged ∷ []) ∷ [] };
  records = entry None act.MediumOut None ∷ record (entry None act.MediumIn None) { number = 2 } ∷ [];
}

-- the target before the exchange, and after it
abbrev pub at_first : List UnitView
at_first = changer_of stocked ∷ drive_of (full_with second_tag) ∷ []

abbrev pub exchanged : List UnitView
exchanged = changer_with after ∷ drive_after first_tag ∷ []

-- the volumes in the drive, in 0400h and in 0402h
abbrev pub places : List UnitView → List (Option Volume)
places us = volume_in us 0x100 ∷ volume_in us 0x400 ∷ volume_in us 0x402 ∷ []

-- what crosses that way
abbrev pub CrossesSo : (after : List UnitView) → DeviceView → Type 0
CrossesSo us device = Crosses at_first us stocked device outward

pub record VolumesCross : Type 0 where
  pub target : fault_of at_first ≡ None
  pub way : way_of (decoded_command (commands Hosts of_changer) asked []) ≡ Some (Exchanged 0x400 0x100 0x402)
  pub default_profile : way_of (decoded_command (commands Spec of_changer) asked []) ≡ None
  pub crosses : CrossesSo exchanged after
  pub served : IsServed power_on at_first exchanged 0 a asked [] (good_with 1)
  -- so the drive may have changed by it
  pub drive : IsMovedAt at_first exchanged 0 (changer_of stocked) (changer_with after) asked (good_with 1) 1
  pub last_target : fault_of exchanged ≡ None
  pub volumes : AreExchanged at_first exchanged 0x400 0x100 0x402
  pub places_before : places at_first ≡ Some (volume second_tag) ∷ Some (volume first_tag) ∷ None ∷ []
  pub places_after : places exchanged ≡ Some (volume first_tag) ∷ None ∷ Some (volume second_tag) ∷ []
  pub cartridges_before : cartridges at_first ≡ cartridge first_tag ∷ cartridge second_tag ∷ []
  pub cartridges_after : cartridges exchanged ≡ cartridge second_tag ∷ cartridge first_tag ∷ []

-- the drive keeps its volume, or has none; the first volume stays at its source too; the drive's is lost, or comes to another element; the mark
-- is the other's; the sources of both aren't noted
pub record VolumesDoNotCross : Type 0 where
  pub drive_keeps : ¬ CrossesSo (changer_with after ∷ drive_after second_tag ∷ []) after
  pub drive_empty : ¬ CrossesSo (changer_with after ∷ drive_of (drive_with None false) ∷ []) after
  pub stays_too : ¬ CrossesSo exchanged (library (Some first_tag) (Some (volume first_tag)) None (Some (volume second_tag)) (Some 0x400) None None (Some 0x401))
  pub lost : ¬ CrossesSo exchanged (library (Some first_tag) None None None (Some 0x400) None None (Some 0x401))
  pub other_element : ¬ CrossesSo exchanged (library (Some first_tag) None (Some (volume second_tag)) None (Some 0x400) None (Some 0x401) None)
  pub other_mark : ¬ CrossesSo exchanged (library (Some second_tag) None None (Some (volume second_tag)) (Some 0x400) None None (Some 0x401))
  pub not_noted : ¬ CrossesSo exchanged (library (Some first_tag) None None (Some (volume second_tag)) (Some 0x401) None None None)
  pub other_source : ¬ Crosses at_first exchanged stocked after (record outward { source = 0x401 })

-- nor are volumes exchanged where one is lost, is doubled or stays
abbrev pub AreExchangedSo : (after : List UnitView) → Type 0
AreExchangedSo us = AreExchanged at_first us 0x400 0x100 0x402

pub record VolumesNotExchanged : Type 0 where
  pub lost : ¬ AreExchangedSo (changer_of (library (Some first_tag) None None None None None None None) ∷ drive_of (full_with first_tag) ∷ [])
  pub doubled : ¬ AreExchangedSo (changer_of (library (Some first_tag) (Some (volume first_tag)) None (Some (volume second_tag)) None None None None) ∷ drive_of (full_with first_tag) ∷ [])
  pub same_one : ¬ AreExchangedSo (changer_of (library (Some first_tag) None None (Some (volume first_tag)) None None None None) ∷ drive_of (full_with first_tag) ∷ [])
  pub kept : ¬ AreExchangedSo at_first
  pub elsewhere : ¬ AreExchangedSo (changer_of (library (Some first_tag) None (Some (volume second_tag)) None None None None None) ∷ drive_of (full_with first_tag) ∷ [])

-- B's exchange where somebody prevents removal at the drive: CHECK CONDITION, 53h/02h, and nothing has moved; and so it is served with no other
-- sense
abbrev pub drive_prevented : UnitView
drive_prevented = unit_with (full_with second_tag) (kept 1 power_on (a ∷ []))

abbrev pub prevented : List UnitView
prevented = changer_of stocked ∷ drive_prevented ∷ []

abbrev pub changer_checking : Sense → UnitView
changer_checking reported =
    record (changer_of stocked) { records = record (entry (Some b) (act.Command class.ExchangeMedium) (Some cell)) { status = CheckCondition; sense = Some reported } ∷ [] }

abbrev pub IsStoppedSo : Sense → Type 0
IsStoppedSo reported = IsServed power_on prevented (changer_checking reported ∷ drive_prevented ∷ []) 0 b asked [] (checked reported)

pub record ExchangeStops : Type 0 where
  pub served : IsStoppedSo (sense 5 0x53 0x02)
  pub other_sense : ¬ IsStoppedSo (sense 4 0x44 0x00)
