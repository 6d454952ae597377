-- The volumes of a target, each at its place: through every event of every run no volume is lost, doubled, made or exchanged for another. A
-- place is an element of the changer, by its address (SMC-3, "Element addressing"); a data transfer element is the bay of its drive.
use Rattle.std.specs.Prelude.{◌≡◌, ◌≢◌, ◌==◌, ◌&&◌, ◌+◌, ℕ, zero, Bool, true, false, List, [], ◌∷◌, ◌++◌, length, slice_get, Option, Some, None, Result, Ok, if◌then◌else◌}
use Rattle.scsi_cdb.specs.declared.kind.Kind.TheVariants as kind
use Rattle.scsi_cdb.specs.declared.profile.Profile.{Profile}
use Rattle.scsi_cdb.specs.declared.host_request.HostRequest.TheVariants.{ExchangeMedium}
use Rattle.scsi_cdb.specs.declared.request.Request.TheVariants.{MoveMedium, Host}
use Rattle.scsi_cdb.specs.Kinds.{commands}
use Rattle.scsi_sense.specs.declared.condition.Condition.{Condition}
use Rattle.tape_medium.specs.declared.volume.Volume.{Volume}
use Rattle.scsi_sense.specs.CarriedOut.{is_carried_out}
use Rattle.device_server.specs.Volumes.{volume_at, SameCartridge, SameVolume, SameAt, is_write}
use Rattle.judgement.specs.declared.reply.Reply.{Reply}
use Rattle.judgement.specs.Commands.{decoded_command}
use Rattle.judgement.specs.declared.command.Command.{Command}
use Rattle.judgement.specs.declared.command.Command.TheVariants.{Device}
use Rattle.judgement.specs.History.{is_good}
use Rattle.logical_unit.specs.Route.{drive_at}
use Rattle.logical_unit.specs.UnitView.{UnitView}
use Rattle.target_core.specs.declared.event.Event.{Event}
use Rattle.target_core.specs.declared.event.Event.TheVariants as event
use Rattle.target_core.specs.Faults.{fault_of, profile_in}
use Rattle.target_core.specs.Run.{Steps, Runs}

-- THE PLACES
abbrev pub bay_of : Option UnitView → Option Volume
bay_of None = None
bay_of (Some drive) = volume_at drive.device 0

abbrev pub volume_by : List UnitView → (changer : UnitView) → (address : ℕ) → (drive : Option ℕ) → Option Volume
volume_by us changer address (Some lun) = bay_of (slice_get us lun)
volume_by us changer address None = volume_at changer.device address

-- the volume at an element of a target, a changer with its drives
abbrev pub volume_in : List UnitView → (address : ℕ) → Option Volume
volume_in [] address = None
volume_in (c ∷ ds) address = volume_by (c ∷ ds) c address (drive_at (length ds) address)

-- WHAT AN EVENT MAY CHANGE. A way from one element to another, or two: the source's volume goes to the first destination, and that one's to the
-- second
pub data Way : Type 0 where
  Carried : (source destination : ℕ) → Way
  Exchanged : (source first second : ℕ) → Way

abbrev pub way_of : Result Command Condition → Option Way
way_of (Ok (Device (MoveMedium transport source destination invert))) = Some (Carried source destination)
way_of (Ok (Device (Host (ExchangeMedium transport source first second inv1 inv2)))) = Some (Exchanged source first second)
way_of command = None

-- the way that an event carried volumes in a target of a profile: that of a MOVE MEDIUM or EXCHANGE MEDIUM to the changer that ended GOOD
abbrev pub carried_by : Profile → Event → Reply → Option Way
carried_by profile (event.Command n zero cdb bytes) r = if is_good r.status then way_of (decoded_command (commands profile kind.Changer) cdb.items bytes.items) else None
carried_by profile e r = None

abbrev pub lun_of : Event → ℕ
lun_of (event.Command n lun cdb bytes) = lun
lun_of (event.Loss n lun) = lun
lun_of (event.Reset lun) = lun

-- whether an event is to the drive at an element: logical unit n is at 00FFh + n (profile)
abbrev pub is_to : Event → (address : ℕ) → Bool
is_to e address = address == lun_of e + 0xFF

abbrev pub writes : Result Command Condition → Bool
writes (Ok (Device request)) = is_write request
writes command = false

-- whether an event writes on the tape of its drive in a target of a profile: a WRITE, WRITE FILEMARKS or ERASE that was carried out, and so ended
-- GOOD or at early warning
abbrev pub is_written : Profile → Event → Reply → Bool
is_written profile (event.Command n lun cdb bytes) r = is_carried_out r.status r.sense && writes (decoded_command (commands profile kind.Drive) cdb.items bytes.items)
is_written profile e r = false

-- what stays the same of a volume: all of it, unless the event is to its drive; then all but where its tape stands, and but what is on it
-- where that is written
abbrev pub StaysSame : (to_its_drive written : Bool) → (before after : Volume) → Type 0
StaysSame false written before after = after ≡ before
StaysSame true false before after = SameVolume before after
StaysSame true true before after = SameCartridge before after

-- one volume was carried: it has left its source and stands at its destination, which was empty, the same volume; and every other element
-- is as it was
pub record IsCarried (before after : List UnitView) (source destination : ℕ) : Type 0 where
  pub volume : Volume
  pub full : volume_in before source ≡ Some volume
  pub empty : volume_in before destination ≡ None
  pub left : volume_in after source ≡ None
  pub there : SameAt SameVolume (Some volume) (volume_in after destination)
  pub others : (address : ℕ) → address ≢ source → address ≢ destination → volume_in after address ≡ volume_in before address

-- two volumes were exchanged: the one at the source stands at the first destination, and the one that was there at the second; where that isn't
-- the source, it was empty, and the source is
pub record AreExchanged (before after : List UnitView) (source first second : ℕ) : Type 0 where
  pub one : Volume
  pub other : Volume
  pub apart : (source ≢ first) × (first ≢ second)
  pub full : volume_in before source ≡ Some one
  pub first_full : volume_in before first ≡ Some other
  pub empty : second ≢ source → volume_in before second ≡ None
  pub left : second ≢ source → volume_in after source ≡ None
  pub first_there : SameAt SameVolume (Some one) (volume_in after first)
  pub there : SameAt SameVolume (Some other) (volume_in after second)
  pub others : (address : ℕ) → address ≢ source → address ≢ first → address ≢ second → volume_in after address ≡ volume_in before address

abbrev pub IsCarriedBy : (before after : List UnitView) → Way → Type 0
IsCarriedBy before after (Carried source destination) = IsCarried before after source destination
IsCarriedBy before after (Exchanged source first second) = AreExchanged before after source first second

-- volumes were carried, or at every element there is the same volume, or none, as before
abbrev pub KeepsVolumes : (before after : List UnitView) → Event → Reply → Option Way → Type 0
KeepsVolumes before after e r (Some way) = IsCarriedBy before after way
KeepsVolumes before after e r None = (address : ℕ) → SameAt (StaysSame (is_to e address) (is_written (profile_in before) e r)) (volume_in before address) (volume_in after address)

-- so it is of each event of each run of a target, from the units before it to those after it
abbrev pub VolumesStay : Type 0
VolumesStay =
    (us vs : List UnitView) (before after : List Event) (rs qs : List Reply) (e : Event) (r : Reply) → fault_of us ≡ None → length rs ≡ length before
    → Runs us (before ++ e ∷ after) (rs ++ r ∷ qs) vs
    → (mid : List UnitView) × (next : List UnitView) × Runs us before rs mid × Steps mid e (next, r) × Runs next after qs vs × KeepsVolumes mid next e r (carried_by (profile_in mid) e r)
