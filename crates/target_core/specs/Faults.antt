-- Why units make no target.
use Rattle.std.specs.Prelude.{ℕ, ◌+◌, Bool, true, false, ◌&&◌, nat_le, List, [], ◌∷◌, length, Option, Some, None, if◌then◌else◌, ◌==◌}
use Rattle.scsi_cdb.specs.declared.kind.Kind.{Kind}
use Rattle.scsi_cdb.specs.declared.kind.Kind.TheVariants.{Drive, Changer}
use Rattle.scsi_cdb.specs.declared.profile.CommandSet.{CommandSet}
use Rattle.scsi_cdb.specs.declared.profile.Profile.{Profile}
use Rattle.scsi_cdb.specs.declared.profile.Profile.TheVariants.{Spec, Hosts}
use Rattle.tape_medium.specs.declared.volume.VolumeTag.{VolumeTag}
use Rattle.device_server.specs.Marks.{marks}
use Rattle.device_server.specs.View.{kind_of, profile_of, commands_of, held_in}
use Rattle.logical_unit.specs.Move.{same_tag}
use Rattle.logical_unit.specs.UnitView.{UnitView}
use Rattle.target_core.specs.declared.order.CoreFault.{CoreFault}
use Rattle.target_core.specs.declared.order.CoreFault.TheVariants.{Count, Order, Disagree}

abbrev pub is_drive : Kind → Bool
is_drive Drive = true
is_drive Changer = false

abbrev pub is_changer : Kind → Bool
is_changer Changer = true
is_changer Drive = false

abbrev pub same_profile : Profile → Profile → Bool
same_profile Spec Spec = true
same_profile Hosts Hosts = true
same_profile one two = false

-- whether commands are those of drives of a profile
abbrev pub is_drive_of : Profile → CommandSet → Bool
is_drive_of profile commands = is_drive commands.kind && same_profile profile commands.profile

-- whether units are drives of a profile, numbered by place from a number on, each made with a count of units
abbrev pub are_drives : Profile → List UnitView → (from count : ℕ) → Bool
are_drives profile [] from count = true
are_drives profile (u ∷ us) from count =
    is_drive_of profile (commands_of u.device) && (u.state.lun == from && (u.state.units == count && are_drives profile us (from + 1) count))

-- a changer, and then drives of its profile
abbrev pub is_in_order : UnitView → List UnitView → ℕ → Bool
is_in_order c ds count = is_changer (kind_of c.device) && (c.state.lun == 0 && (c.state.units == count && are_drives (profile_of c.device) ds 1 count))

-- whether a mark at the changer is the tag of what is in a drive's bay
abbrev pub same_mark : (mark held : Option VolumeTag) → Bool
same_mark None None = true
same_mark (Some mark) (Some held) = same_tag mark held
same_mark mark held = false

-- whether the changer has a data transfer element for each drive, with the mark that is true of it
abbrev pub agree : List (Option VolumeTag) → List UnitView → Bool
agree [] [] = true
agree (mark ∷ marks) (d ∷ ds) = same_mark mark (held_in d.device 0) && agree marks ds
agree marks ds = false

-- why a changer and drives in order make no target
abbrev pub disagreement : UnitView → List UnitView → Option CoreFault
disagreement c ds = if agree (marks c.device) ds then None else Some Disagree

-- the first that applies; a target has a changer and one to four drives (profile)
abbrev pub fault_of : List UnitView → Option CoreFault
fault_of [] = Some Count
fault_of (c ∷ ds) =
    if nat_le 1 (length ds) && nat_le (length ds) 4 then (if is_in_order c ds (length ds + 1) then disagreement c ds else Some Order) else Some Count

-- the profile of the units of a target, which is that of its changer
abbrev pub profile_in : List UnitView → Profile
profile_in [] = Spec
profile_in (c ∷ ds) = profile_of c.device
