-- What holds of every end of a command at a device, and what a device stays through it.
use Rattle.std.specs.Prelude.{◌≡◌, ◌⊎◌, ℕ, List, Option, None, Some, IsSome}
use Rattle.scsi_cdb.specs.declared.classes.Class.{Class}
use Rattle.scsi_cdb.specs.declared.classes.Class.TheVariants.{ModeSelect, ModeSelect10, LogSelect, LoadUnload}
use Rattle.scsi_cdb.specs.declared.profile.Profile.{Profile}
use Rattle.scsi_cdb.specs.declared.profile.Profile.TheVariants.{Spec, Hosts}
use Rattle.scsi_cdb.specs.declared.request.Request.{Request}
use Rattle.scsi_cdb.specs.Classes.{class_of}
use Rattle.scsi_sense.specs.declared.status.Status.TheVariants.{Good, CheckCondition}
use Rattle.unit_attention.specs.declared.kind.Kind.{Kind}
use Rattle.unit_attention.specs.declared.kind.Kind.TheVariants.{MediumChanged, ModeParametersChanged, LogParametersChanged}
use Rattle.device_server.specs.declared.outcome.Outcome.{Outcome}
use Rattle.device_server.specs.View.{DeviceView, kind_of, profile_of, identity_of, drives_of, journeyed, exchange_journeyed, performed, reset_of}

-- GOOD without sense data, or CHECK CONDITION with it
abbrev pub IsEnded : Outcome → Type 0
IsEnded o = ((o.status ≡ Good) × (o.sense ≡ None)) ⊎ ((o.status ≡ CheckCondition) × IsSome o.sense)

-- what a command of a class may tell every other nexus in the default profile: a MODE SELECT that the mode parameters changed, and no other
-- anything
abbrev pub spec_told_by : Class → Option Kind
spec_told_by ModeSelect = Some ModeParametersChanged
spec_told_by class = None

-- in the hosts' profile a LOG SELECT also tells that log parameters changed, and a LOAD UNLOAD that the medium may have changed
abbrev pub host_told_by : Class → Option Kind
host_told_by ModeSelect = Some ModeParametersChanged
host_told_by ModeSelect10 = Some ModeParametersChanged
host_told_by LogSelect = Some LogParametersChanged
host_told_by LoadUnload = Some MediumChanged
host_told_by class = None

abbrev pub told_by : Profile → Class → Option Kind
told_by Spec class = spec_told_by class
told_by Hosts class = host_told_by class

-- of a command: only one that is GOOD tells the others something, and only what its class tells
pub record IsOwn (profile : Profile) (r : Request) (o : Outcome) : Type 0 where
  pub ended : IsEnded o
  pub told : (kind : Kind) → o.told ≡ Some kind → (told_by profile (class_of r) ≡ Some kind) × (o.status ≡ Good)

-- a device of the same kind, profile and identity, with as many data transfer elements
pub record IsSameDevice (before after : DeviceView) : Type 0 where
  pub kind : kind_of after ≡ kind_of before
  pub profile : profile_of after ≡ profile_of before
  pub identity : identity_of after ≡ identity_of before
  pub drives : drives_of after ≡ drives_of before

-- every command, and a reset
abbrev pub EndsItsOwnWay : Type 0
EndsItsOwnWay = (device : DeviceView) (request : Request) (bytes : List ℕ) → IsOwn (profile_of device) request (performed device request bytes).1

-- in the default profile as above
abbrev pub SpecTellsOfModes : Type 0
SpecTellsOfModes = (class : Class) → told_by Spec class ≡ spec_told_by class

abbrev pub StaysTheSameDevice : Type 0
StaysTheSameDevice = (device : DeviceView) (request : Request) (bytes : List ℕ) → IsSameDevice device (performed device request bytes).0

abbrev pub StaysTheSameByReset : Type 0
StaysTheSameByReset = (device : DeviceView) → IsSameDevice device (reset_of device)

-- and a volume that was carried
abbrev pub StaysTheSameByJourneys : Type 0
StaysTheSameByJourneys = (device : DeviceView) (source destination : ℕ) → IsSameDevice device (journeyed device source destination)

abbrev pub StaysTheSameByExchanges : Type 0
StaysTheSameByExchanges = (device : DeviceView) (source first second : ℕ) → IsSameDevice device (exchange_journeyed device source first second)
