-- What is in a unit, and who may not change it.
use Rattle.std.specs.Prelude.{◌≡◌, ℕ, Bool, false, List, Option, None, Some}
use Rattle.scsi_nexus.specs.declared.nexus.Nexus.{Nexus}
use Rattle.permit_tables.specs.Permission.{Changing, row_allows}
use Rattle.pr_core.specs.State.{State, res_type, role}
use Rattle.inquiry_data.specs.declared.unit_identity.UnitIdentity.{UnitIdentity}
use Rattle.device_server.specs.declared.host_drive.HostDrive.{HostDrive}
use Rattle.device_server.specs.View.{DeviceView, Drive, Changer}
use Rattle.device_server.specs.Volumes.{SameVolume, SameAt}
use Rattle.judgement.specs.declared.reply.Reply.{Reply}
use Rattle.logical_unit.specs.Step.{Executes}
use Rattle.logical_unit.specs.UnitView.{UnitView}

-- what a drive of the hosts' profile keeps besides, but for its counters
abbrev pub settings_of : Option HostDrive → Option (UnitIdentity × Bool × Bool)
settings_of None = None
settings_of (Some h) = Some (h.identity, h.held, h.compression)

-- a drive with the same volume, loaded and set as before, where its tape may stand elsewhere and its counters may have grown, or a changer with
-- the same elements
abbrev pub SameContents : DeviceView → DeviceView → Type 0
SameContents (Drive d) (Drive e) =
    (d.loaded ≡ e.loaded) × (d.block_length ≡ e.block_length) × (settings_of d.hosts ≡ settings_of e.hosts) × SameAt SameVolume d.bay e.bay
SameContents (Changer d) (Changer e) = d ≡ e
SameContents d e = ⊥

-- the permission table closes the changing classes to a nexus: WE and EA to who doesn't hold, a group type to who isn't registered
abbrev pub MayNotChange : State → Nexus → Type 0
MayNotChange v n = row_allows Changing (res_type v) (role v n) ≡ false

-- a command of such a nexus leaves what is in the unit
abbrev pub OutsiderChangesNothing : Type 0
OutsiderChangesNothing = (u v : UnitView) (n : Nexus) (cdb bytes : List ℕ) (r : Reply) → MayNotChange u.state.reservations n → Executes u n cdb bytes (v, r) → SameContents u.device v.device
